-- The answer to a change that was settled. Assumes nothing.
use Rattle.std.specs.Prelude.{ℕ, Bool, cond, Ok, Err}
use Rattle.answers.specs.declared.cases.Refusal.TheVariants.{NoRoom}
use Rattle.answers.specs.Replies.{Answer}

-- done with its value, or "the sixteen lists after the change need more states than room"
abbrev pub settled_answer : Bool → ℕ → Answer
settled_answer done value = cond done (Ok value) (Err NoRoom)
