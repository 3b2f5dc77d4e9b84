-- The tests that the calls begin with, as the first refusals of their rules. Assumes nothing.
use Rattle.std.specs.Prelude.{ℕ, Bool, true, false, cond, List, [], ◌∷◌, Result, Ok, Err}
use Rattle.model.specs.Call.{Book}
use Rattle.model.specs.Refusals.{Refusal as Test, bad_length, bad_mission, not_sound}
use Rattle.answers.specs.declared.cases.Refusal.{Refusal}
use Rattle.answers.specs.Replies.{refusal_number}

-- the tests refuse the call, or none does
abbrev pub Admission : Type 0
Admission = Result (Unit {0}) Refusal

-- the number of the refusal, or 0 where none of the tests refuses
abbrev pub admission_number : Admission → ℕ
admission_number (Ok _) = 0
admission_number (Err r) = refusal_number r

-- arguments that are fine, or are refused so
abbrev pub if_fine : Bool → Refusal → Admission
if_fine fine otherwise = cond fine (Ok tt) (Err otherwise)

-- what was found of a call's other arguments, in its place among the tests
abbrev pub verdict : Admission → Test
verdict (Ok _) = record { number = 0; applies = false }
verdict (Err r) = record { number = refusal_number r; applies = true }

-- 1 and 7
abbrev pub book_tests : Book → List Test
book_tests b = bad_length b ∷ not_sound b ∷ []

-- 1 and 2: of a call on a mission's list that works "on any numbers"
abbrev pub walk_tests : Book → ℕ → List Test
walk_tests b m = bad_length b ∷ bad_mission m ∷ []

-- the same, a number from 3 to 6 where the other arguments are not fine, and 7
abbrev pub first_tests : Book → ℕ → Admission → List Test
first_tests b m arguments = bad_length b ∷ bad_mission m ∷ verdict arguments ∷ not_sound b ∷ []
