-- "A refusal .. changes no number of the table and no byte of an answer buffer", and a change whose value is 0 leaves the table as it was; and
-- "a change to one list leaves the other fifteen the same": of every call. Assumes nothing.
use Prim.Native.Nat.{ℕ, ◌<◌}
use native.Mathlib.Omega.{arith}
use mathlib.Core.Path.{◌≡◌, refl, sym, ◌∙◌, ap}
use mathlib.Core.Bool.{Bool, true, false, false≢true}
use mathlib.Core.List.{List}
use Rattle.model.specs.Lists.{list_of}
use Rattle.model.specs.Call.{Call, Outcome}
use Rattle.model.specs.Call.Call.{empty}
use Rattle.model.specs.Run.{run}
use Rattle.model.specs.Changes.{changes as may_change, is_change}
use Rattle.model.proofs.Changes.{run-others}
use Rattle.rows.specs.Table.{Table, length_ok}
use Rattle.rows.specs.Words.{lists}
use Rattle.answers.specs.declared.replies.Reply.{Reply}
use Rattle.promises.specs.Books.{book_of}
use Rattle.promises.specs.Promises.{outcome_of, Promised, Untouched}
use Rattle.promises.proofs.Outcomes.{refused-outcome, Kind, kind, emptied}
use Rattle.promises.proofs.Outcomes.Kind.{empties, reads, changes}

value_of : {o p : Outcome} → o ≡ p → o.value ≡ p.value
value_of e = ap (λ (o : Outcome). o.value) e

-- empty is refused only for the slice's length
empty-refused : (t : Table) → 0 < (run (book_of t) empty).number → length_ok t ≡ false
unfolding run
empty-refused t some = go (length_ok t) refl
  where
    go : (fine : Bool) → length_ok t ≡ fine → fine ≡ false
    go true e = absurd (omega (arith, rw e at some))
    go false e = refl

module _ (t after : Table) (before filled : List ℕ) (call : Call) (reply : Reply) (p : Promised t after before filled call reply) where
  refused-table : 0 < (outcome_of t call).number → Kind call → after ≡ t
  refused-table some (empties e) = emptied t after e p.table ∙ rw (empty-refused t (rw e at some))
  refused-table some (reads r) = r.table t after p.table
  refused-table some (changes c) =
      (c.table t after p.table).same (value_of (sym (c.outcome t) ∙ refused-outcome t call some))

  idle-table : is_change call ≡ true → (outcome_of t call).value ≡ 0 → Kind call → after ≡ t
  idle-table change none (empties e) = absurd (false≢true (rw e at change))
  idle-table change none (reads r) = r.table t after p.table
  idle-table change none (changes c) = (c.table t after p.table).same (value_of (sym (c.outcome t)) ∙ none)

  pub nothing-changed : Untouched t after before filled call reply
  nothing-changed =
      record {
        refused =
            λ some.
            let refusal : 0 < (outcome_of t call).number = rw p.answers at some in
            (refused-table refusal (kind call), p.buffer ∙ rw (refused-outcome t call refusal));
        idle = λ change none. idle-table change (rw p.answers at none) (kind call);
      }

  -- "a change to one list leaves the other fifteen the same" (demand 2), and every other call leaves all of them.
  pub others-kept : (n : ℕ) → may_change call n ≡ false → list_of (lists after) n ≡ list_of (lists t) n
  others-kept n other = go (kind call)
    where
      go : Kind call → list_of (lists after) n ≡ list_of (lists t) n
      go (empties e) = absurd (false≢true (sym other ∙ rw e))
      go (reads r) = rw (r.table t after p.table)
      go (changes c) = rw (c.table t after p.table).lists (run-others (book_of t) call n other)
