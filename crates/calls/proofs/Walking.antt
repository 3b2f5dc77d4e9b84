-- What ask and next share: their rule has 1, 2 and 4 and no others. So where the length of the slice and the mission pass, the word's reply is the
-- call's, and where they refuse the call is refused. Assumes nothing.
use Prim.Native.Nat.{ℕ}
use native.Mathlib.Omega.{arith}
use mathlib.Core.Path.{◌≡◌, ◌∙◌}
use mathlib.Core.Bool.{Bool, false, not}
use mathlib.Core.List.{[], ◌∷◌}
use borrow.Author.Tests.{le-ltb}
use Rattle.std.specs.Prelude.{Ok, Err}
use Rattle.letters.proofs.Tests.{by-test}
use Rattle.model.specs.Lists.{last_mission}
use Rattle.model.specs.Call.{Call}
use Rattle.model.specs.Refusals.{Refusal as Test, given, bad_length, bad_mission}
use Rattle.model.specs.Rules.{Rule}
use Rattle.model.specs.Run.{refused, ruled}
use Rattle.rows.specs.Table.{Table}
use Rattle.answers.specs.declared.cases.Refusal.{Refusal}
use Rattle.answers.specs.declared.cases.Refusal.TheVariants.{Name}
use Rattle.answers.specs.declared.replies.Reply.{Reply}
use Rattle.answers.specs.Replies.{refused_reply}
use Rattle.promises.specs.Books.{book_of}
use Rattle.promises.specs.Promises.{outcome_of, Leaves, Promised}
use Rattle.promises.proofs.Meeting.{has_buffer, promises, promises-refused}
use Rattle.admitting.specs.Admissions.{Admission, admission_number, walk_tests}
use Rattle.admitting.proofs.Admitting.{walk-admitted, refused-first}
use Rattle.calls.specs.Words.{word_reply}

-- "no name (next: no prefix) by the rules above"
abbrev no_word : Bool → Test
no_word fine = record { number = 4; applies = not fine }

-- a call that goes by this rule on any numbers, where a word is refused by 4 if it is not fine
pub record ByWalk (t : Table) (m : ℕ) (fine : Bool) (call : Call) (r : Rule) : Type 0 where
  pub bare : has_buffer call ≡ false
  pub leaves : Leaves t t call
  pub comes : outcome_of t call ≡ ruled (book_of t) r
  pub refusals : given r.refusals ≡ given (bad_length (book_of t) ∷ bad_mission m ∷ no_word fine ∷ [])

module _ {t : Table} {m : ℕ} {fine : Bool} {call : Call} {r : Rule} (w : ByWalk t m fine call r)
    (a : Admission) (number : admission_number a ≡ given (walk_tests (book_of t) m)) where
  pub walk-done : a ≡ Ok tt → (reply : Reply) → reply ≡ word_reply fine r → Promised t t [] [] call reply
  walk-done told reply said =
      by-test fine
      (λ yes. promises t t call reply w.bare w.leaves (said ∙ rw (w.comes, only-word, yes)))
      (λ no.
      let refuses : outcome_of t call ≡ refused 4 (book_of t) = rw (w.comes, only-word, no) in
      let same : reply ≡ refused_reply Name = said ∙ rw no in
      rw same (promises-refused t call Name w.bare w.leaves refuses))
    where
      only-word : given r.refusals ≡ given (no_word fine ∷ [])
      only-word =
          let passed = walk-admitted t m (rw told at number) in
          w.refusals ∙ rw (passed.length, le-ltb last_mission m (omega (arith, passed.mission)))

  pub walk_refused : (why : Refusal) → a ≡ Err why → Promised t t [] [] call (refused_reply why)
  walk_refused why told =
      promises-refused t call why w.bare w.leaves
      (w.comes ∙ refused-first (book_of t) r (walk_tests (book_of t) m) (no_word fine ∷ []) w.refusals why (rw told at number))
