-- An answer is found again from its reply: the number tells a refusal from an answer and one refusal from another, and the values tell the
-- rest. So two answers with the same reply are the same. Assumes nothing.
use Prim.Native.Nat.{ℕ, zero, suc, ◌<◌}
use native.Mathlib.Omega.{arith}
use mathlib.Core.Path.{◌≡◌, refl}
use mathlib.Core.Bool.{cond}
use mathlib.Core.List.{List, [], ◌∷◌}
use lib.Dec.{eqb}
use lib.ListN.{get_or}
use Rattle.std.specs.Prelude.{Result, Ok, Err}
use Rattle.answers.specs.declared.cases.Refusal.{Refusal}
use Rattle.answers.specs.declared.cases.Refusal.TheVariants as refusal
use Rattle.answers.specs.declared.cases.Asked.{Asked}
use Rattle.answers.specs.declared.cases.Asked.TheVariants as asked
use Rattle.answers.specs.declared.cases.Following.{Following}
use Rattle.answers.specs.declared.replies.Reply.{Reply}
use Rattle.answers.specs.Replies.{refusal_number, Answer, answer_reply, ask_reply, next_reply}

-- the refusals in the order of their numbers, from 1 on
abbrev refusals : List Refusal
refusals =
    refusal.Length
    ∷ refusal.Mission
    ∷ refusal.Operation
    ∷ refusal.Name
    ∷ refusal.List
    ∷ refusal.Buffer
    ∷ refusal.NotSound
    ∷ refusal.NotEmpty
    ∷ refusal.TooMany
    ∷ refusal.NotUnder
    ∷ refusal.NoRoom
    ∷ []

-- what a number stands for: 0 for done, any other for its refusal
abbrev numbered : {A : Type 0} → ℕ → A → (Refusal → A) → A
numbered zero done refused = done
numbered (suc n) done refused = refused (get_or refusals n refusal.NoRoom)

refusal-again : {A : Type 0} (r : Refusal) (done : A) (refused : Refusal → A) → numbered (refusal_number r) done refused ≡ refused r
refusal-again refusal.Length done refused = refl
refusal-again refusal.Mission done refused = refl
refusal-again refusal.Operation done refused = refl
refusal-again refusal.Name done refused = refl
refusal-again refusal.List done refused = refl
refusal-again refusal.Buffer done refused = refl
refusal-again refusal.NotSound done refused = refl
refusal-again refusal.NotEmpty done refused = refl
refusal-again refusal.TooMany done refused = refl
refusal-again refusal.NotUnder done refused = refl
refusal-again refusal.NoRoom done refused = refl

-- a refusal's number is above 0
pub refusal-positive : (r : Refusal) → 0 < refusal_number r
refusal-positive r = go (refusal_number r) (refusal-again {A = ℕ} r 0 (λ _. 1))
  where
    go : (n : ℕ) → numbered {A = ℕ} n 0 (λ _. 1) ≡ 1 → 0 < n
    go zero e = absurd (omega arith)
    go (suc n) e = omega arith

-- the answer that a reply comes from
abbrev answer_of : Reply → Answer
answer_of o = numbered o.number (Ok o.value) Err

abbrev asked_of : Reply → Result Asked Refusal
asked_of o = numbered o.number (Ok (cond (eqb o.value 1) (asked.OnList o.second) (asked.NotOnList o.second))) Err

abbrev following_of : Reply → Result Following Refusal
following_of o = numbered o.number (Ok (record { set = o.value; count = o.second })) Err

answer-again : (a : Answer) → answer_of (answer_reply a) ≡ a
answer-again (Ok value) = refl
answer-again (Err r) = refusal-again r _ _

asked-again : (a : Result Asked Refusal) → asked_of (ask_reply a) ≡ a
asked-again (Ok (asked.OnList followed)) = refl
asked-again (Ok (asked.NotOnList followed)) = refl
asked-again (Err r) = refusal-again r _ _

following-again : (a : Result Following Refusal) → following_of (next_reply a) ≡ a
following-again (Ok following) = refl
following-again (Err r) = refusal-again r _ _

-- what is found again from what it gives is the only one that gives that
only_one : {A B : Type 0} (gives : A → B) (back : B → A) → ((a : A) → back (gives a) ≡ a) → (a b : A) → gives a ≡ gives b → a ≡ b
only_one gives back again a b e = cc (again a, again b)

-- Two answers with the same reply are the same: for every call that answers a number and a value, for ask, and for next.
pub answer-one : (a b : Answer) → answer_reply a ≡ answer_reply b → a ≡ b
answer-one = only_one answer_reply answer_of answer-again

pub ask-one : (a b : Result Asked Refusal) → ask_reply a ≡ ask_reply b → a ≡ b
ask-one = only_one ask_reply asked_of asked-again

pub next_one : (a b : Result Following Refusal) → next_reply a ≡ next_reply b → a ≡ b
next_one = only_one next_reply following_of following-again
