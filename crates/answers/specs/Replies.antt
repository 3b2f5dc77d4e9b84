-- The number and the values of every case of an answer. Assumes nothing.
use Rattle.std.specs.Prelude.{ℕ, Result, Ok, Err}
use Rattle.model.specs.Call.{Outcome}
use Rattle.answers.specs.declared.cases.Refusal.{Refusal}
use Rattle.answers.specs.declared.cases.Refusal.TheVariants.{Length, Mission, Operation, Name, List, Buffer}
use Rattle.answers.specs.declared.cases.Refusal.TheVariants.{NotSound, NotEmpty, TooMany, NotUnder, NoRoom}
use Rattle.answers.specs.declared.cases.Asked.{Asked}
use Rattle.answers.specs.declared.cases.Asked.TheVariants as asked
use Rattle.answers.specs.declared.cases.Following.{Following}
use Rattle.answers.specs.declared.replies.Reply.{Reply}

-- 01, "Refusal numbers"
abbrev pub refusal_number : Refusal → ℕ
refusal_number Length = 1
refusal_number Mission = 2
refusal_number Operation = 3
refusal_number Name = 4
refusal_number List = 5
refusal_number Buffer = 6
refusal_number NotSound = 7
refusal_number NotEmpty = 8
refusal_number TooMany = 9
refusal_number NotUnder = 10
refusal_number NoRoom = 11

-- "Each call answers a number and a value"; ask and next also a second value, which is 0 of every other call
abbrev pub done_both : ℕ → ℕ → Reply
done_both value second = record { number = 0; value = value; second = second }

abbrev done_reply : ℕ → Reply
done_reply value = done_both value 0

-- "A refusal has value 0 (next: both values 0)"; 02, wish 1: "A refusal reports 0."
abbrev pub refused_reply : Refusal → Reply
refused_reply r = record { number = refusal_number r; value = 0; second = 0 }

-- an answer: its value, or why the call was refused
abbrev pub Answer : Type 0
Answer = Result ℕ Refusal

abbrev pub answer_reply : Answer → Reply
answer_reply (Ok value) = done_reply value
answer_reply (Err r) = refused_reply r

-- "ask 1 or 0." 02, wish 1: "ask shall also report the arcs it followed."
abbrev pub ask_reply : Result Asked Refusal → Reply
ask_reply (Ok (asked.OnList followed)) = done_both 1 followed
ask_reply (Ok (asked.NotOnList followed)) = done_both 0 followed
ask_reply (Err r) = refused_reply r

-- next's values: the letters that may follow as a sum, and their number
abbrev pub next_reply : Result Following Refusal → Reply
next_reply (Ok following) = done_both following.set following.count
next_reply (Err r) = refused_reply r

-- what the model says
abbrev pub reply_of : Outcome → Reply
reply_of o = record { number = o.number; value = o.value; second = o.second }
