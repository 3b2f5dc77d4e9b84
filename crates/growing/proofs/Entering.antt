-- What the index says of free rows: the last of them, or that there is none; and that a free row which was written is about to come into its
-- bucket, as the other rows are as they were, and its arcs are all that the table has more. Assumes nothing.
use Prim.Native.Nat.{ℕ, ◌+◌, ◌*◌, ◌<◌}
use native.Mathlib.Omega.{arith}
use native.Mathlib.Decide.{ℕ_discrete}
use mathlib.Core.Path.{◌≡◌, refl, sym, ◌∙◌}
use mathlib.Core.Bool.{Bool, true, false, cond, and-false}
use mathlib.Core.List.{List}
use borrow.Author.Tests.{eqb-true, eq-eqb, ne_eqb}
use lib.Dec.{eqb}
use lib.ListN.{get_or}
use Rattle.letters.specs.Letters.{letters}
use Rattle.rows.specs.Table.{Table, width, row_count, mark, target, in_use}
use Rattle.rows.specs.Tidy.{Used}
use Rattle.rows.proofs.Facts.{used-same, used-in-use}
use Rattle.chains.proofs.Chains.{chained-of}
use Rattle.index.specs.Buckets.{row_key, bucket}
use Rattle.index.specs.Index.{Indexed, Entering}
use Rattle.index.proofs.Arcs.{arcs-none, one-row-more}
use Rattle.index.proofs.Buckets.{same_key, bucket-free}
use Rattle.growing.specs.Rows.{NewRow}

-- row r is free
pub record Free (t : Table) (r : ℕ) : Type 0 where
  pub positive : 0 < r
  pub inside : r < row_count t
  pub empty : mark t r ≡ 0

module _ (t : Table) {index : List ℕ} (indexed : Indexed t index) where
  pub first-free : 0 < get_or index 0 0 → Free t (get_or index 0 0)
  first-free some =
      let last = indexed.chained.lasts 0 (omega arith) in
      record { positive = some; inside = last.below; empty = go (eqb (mark t (get_or index 0 0)) 0) refl (last.there some) }
    where
      go : (b : Bool) → eqb (mark t (get_or index 0 0)) 0 ≡ b → bucket t (get_or index 0 0) ≡ 0 → mark t (get_or index 0 0) ≡ 0
      go true free e = eqb-true (mark t (get_or index 0 0)) 0 free
      go false taken e = absurd (omega (arith, rw taken at e))

  pub none_free : get_or index 0 0 ≡ 0 → (r : ℕ) → 0 < r → r < row_count t → Used t r
  none_free none r some inside =
      elim (ℕ_discrete (mark t r) 0) [
        | yes free ↦ absurd ((indexed.chained.lasts 0 (omega arith)).none r (omega arith) inside (bucket-free t r free))
        | no taken ↦ record { positive = some; inside = inside; marked = omega arith }
      ]

  -- the last free row is written
  module _ {u : Table} {k h : ℕ} {ts : List ℕ} (some : 0 < get_or index 0 0) (positive : 0 < k) (written : NewRow t u (get_or index 0 0) k h ts)
      (below : (x : ℕ) → x < letters → get_or ts x 0 < row_count t) where
    abbrev r : ℕ
    r = get_or index 0 0

    same-mark : (q : ℕ) → (q ≡ r → ⊥) → mark u q ≡ mark t q
    same-mark q other = written.others (q * width) (λ e. other (omega arith))

    same_target : (q x : ℕ) → (q ≡ r → ⊥) → x < letters → target u q x ≡ target t q x
    same_target q x other h = written.others (q * width + 2 + x) (λ e. other (omega arith))

    same-row-key : (q : ℕ) → (q ≡ r → ⊥) → row_key u q ≡ row_key t q
    same-row-key q other = rw (same-mark q other) (same_key (mark t q) _ _ (λ x h. same_target q x other h))

    same-bucket : (q : ℕ) → bucket t q ≡ cond (eqb q r) 0 (bucket u q)
    same-bucket q =
        elim (ℕ_discrete q r) [
          | yes e ↦ rw (eq-eqb q r e) (bucket-free t q (rw e (first-free some).empty))
          | no e ↦ rw (ne_eqb q r e, same-row-key q e, same-mark q e)
        ]

    same_rows : row_count u ≡ row_count t
    same_rows = rw written.long

    row-used : Used u r
    row-used =
        record { positive = some; inside = omega (arith, same_rows, (first-free some).inside); marked = omega (arith, written.marked) }

    -- the row was not in use
    was_free : in_use t r ≡ false
    was_free = rw ((first-free some).empty, and-false)

    same-use : (q : ℕ) → (q ≡ r → ⊥) → in_use u q ≡ in_use t q
    same-use q other = rw (written.long, same-mark q other)

    pub written-entering : Entering u r 0 index
    written-entering =
        let rows = same_rows in
        record {
          long = indexed.keys.long;
          first = refl;
          used = row-used;
          chained = rw rows (chained-of (λ q _ _. same-bucket q) indexed.chained);
          keys = λ q used other.
              let old : Used t q = used-same (sym written.long) (sym (same-mark q other)) used in
              indexed.keys.at q old.inside old ∙ sym (same-row-key q other);
          targets = λ y h. omega (arith, written.targeted y h, below y h);
          arcs = λ s above h.
              let more = one-row-more t u r rows (first-free some).inside was_free (used-in-use row-used) same-use same_target s in
              omega (arith, indexed.arcs s above (omega arith), arcs-none u r s);
        }
