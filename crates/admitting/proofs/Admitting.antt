-- What it means for a call that its first tests pass, or refuse it. Where they give no number, none of them applies. Where they give one, it is
-- the call's: no refusal that stands behind them comes before it. Assumes nothing.
use Prim.Native.Nat.{ℕ, zero, suc, ◌<◌}
use native.Mathlib.Omega.{arith}
use mathlib.Core.Path.{◌≡◌, refl, sym, ◌∙◌}
use mathlib.Core.Bool.{Bool, true, false, not, false≢true}
use mathlib.Core.List.{List, ◌∷◌, ◌++◌}
use borrow.Author.Tests.{not-false, ltb-false}
use Rattle.std.specs.Prelude.{Ok, Err}
use Rattle.model.specs.Lists.{last_mission, missions}
use Rattle.model.specs.Call.{Book, Outcome}
use Rattle.model.specs.Refusals.{Refusal as Test, given, bad_length, bad_mission, not_sound}
use Rattle.model.specs.Rules.{Rule}
use Rattle.model.specs.Run.{refused, outcome, ruled}
use Rattle.model.proofs.Refusals.{given-none, given-first}
use Rattle.rows.specs.Table.{Table, length_ok}
use Rattle.rows.specs.Rules.{sound}
use Rattle.answers.specs.declared.cases.Refusal.{Refusal}
use Rattle.answers.specs.Replies.{refusal_number}
use Rattle.answers.proofs.Again.{refusal-positive}
use Rattle.promises.specs.Books.{book_of}
use Rattle.admitting.specs.Admissions.{Admission, if_fine, verdict, book_tests, walk_tests, first_tests}

-- ---- arguments

verdict-numbered : (a : Admission) → (verdict a).applies ≡ true → 0 < (verdict a).number
verdict-numbered (Ok _) e = absurd (false≢true e)
verdict-numbered (Err r) e = refusal-positive r

verdict-fine : (a : Admission) → (verdict a).applies ≡ false → a ≡ Ok tt
verdict-fine (Ok _) e = refl
verdict-fine (Err r) e = absurd (false≢true (sym e))

pub fine-true : (fine : Bool) (otherwise : Refusal) → if_fine fine otherwise ≡ Ok tt → fine ≡ true
fine-true true otherwise e = refl
fine-true false otherwise e = cc

-- a call's rule that has one test of the arguments begins with these tests
pub first-begins : (b : Book) (m : ℕ) (fine : Bool) (otherwise : Refusal) (more : List Test)
    → given (bad_length b ∷ bad_mission m ∷ record { number = refusal_number otherwise; applies = not fine } ∷ not_sound b ∷ more)
    ≡ given (first_tests b m (if_fine fine otherwise) ++ more)
first-begins b m true otherwise more = refl
first-begins b m false otherwise more = refl

-- ---- none of the tests applies

pub record Admits (t : Table) (m : ℕ) (found : Admission) : Type 0 where
  pub length : length_ok t ≡ true
  pub mission : m < missions
  pub arguments : found ≡ Ok tt
  pub sound : sound t ≡ true

-- of those of a walk
pub record Walks (t : Table) (m : ℕ) : Type 0 where
  pub length : length_ok t ≡ true
  pub mission : m < missions

module _ (t : Table) where
  abbrev b : Book
  b = book_of t

  pub book-admitted : 0 ≡ given (book_tests b) → sound t ≡ true
  book-admitted none =
      let (_, (sound, _)) = given-none (book_tests b) ((λ _. omega arith), ((λ _. omega arith), tt)) (sym none) in
      not-false _ sound

  pub walk-admitted : (m : ℕ) → 0 ≡ given (walk_tests b m) → Walks t m
  walk-admitted m none =
      let (length, (mission, _)) = given-none (walk_tests b m) ((λ _. omega arith), ((λ _. omega arith), tt)) (sym none) in
      record { length = not-false _ length; mission = omega (arith, ltb-false last_mission m mission) }

  pub admitted : (m : ℕ) (found : Admission) → 0 ≡ given (first_tests b m found) → Admits t m found
  admitted m found none =
      let (length, (mission, (fine, (sound, _)))) =
      given-none (first_tests b m found) ((λ _. omega arith), ((λ _. omega arith), (verdict-numbered found, ((λ _. omega arith), tt)))) (sym none)
      in
      record {
        length = not-false _ length;
        mission = omega (arith, ltb-false last_mission m mission);
        arguments = verdict-fine found fine;
        sound = not-false _ sound;
      }

-- ---- the tests refuse

refused-outcome : (b : Book) (n : ℕ) (done : Outcome) → 0 < n → outcome b n done ≡ refused n b
refused-outcome b zero done some = absurd (omega arith)
refused-outcome b (suc n) done some = refl

-- Where a rule's refusals begin with these tests, it comes to what they say. That they begin so is asked of the number given: the rule gives what
-- the tests and some more give.
pub refused-first : (b : Book) (r : Rule) (tests more : List Test) → given r.refusals ≡ given (tests ++ more)
    → (why : Refusal) → refusal_number why ≡ given tests → ruled b r ≡ refused (refusal_number why) b
refused-first b r tests more begins why number =
    let first : given (tests ++ more) ≡ given tests = given-first tests more (omega (arith, refusal-positive why)) in
    rw (begins ∙ first ∙ sym number) (refused-outcome b (refusal_number why) _ (refusal-positive why))
