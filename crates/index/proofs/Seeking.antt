-- A search along a chain: rows that agree are in the same bucket, so none of those outside the chain agrees, and of those in it each is looked
-- at. Assumes nothing.
use Prim.Native.Nat.{ℕ, ◌≤◌, ◌<◌}
use mathlib.Core.Path.{◌≡◌, sym, ◌∙◌}
use mathlib.Core.Logic.{inl, inr}
use mathlib.Core.Bool.{true, false, not, ◌&&◌, and-eq-true_iff, false≢true}
use mathlib.Core.List.{List}
use native.Mathlib.Decide.{ℕ_discrete}
use native.Mathlib.Omega.{arith}
use borrow.Author.Tests.{eqb-true, eqb-false, ne_eqb, not-true}
use lib.Dec.{eqb}
use lib.ListN.{length, get_or, length-take, length-drop}
use Rattle.letters.specs.Letters.{letters}
use Rattle.letters.proofs.Below.{all-below, below_all}
use Rattle.sets.proofs.Below.{tests_agree, some_below_lem, below-some}
use Rattle.rows.specs.Table.{Table, row_count, mark, target, row_targets, in_use}
use Rattle.rows.specs.Rules.{agree, has_twin}
use Rattle.rows.specs.Tidy.{Used}
use Rattle.rows.proofs.Facts.{in-use-used}
use Rattle.rows.proofs.Skipping.{lower-or-not, row_target}
use Rattle.chains.specs.Chains.{Latest}
use Rattle.chains.proofs.Chains.{latest-here}
use Rattle.index.specs.Buckets.{key_of, row_key, bucket_of, bucket}
use Rattle.index.specs.Index.{has, agrees, Finds}
use Rattle.index.proofs.Buckets.{same_key, bucket-used, in-bucket}

-- the key is that of the mark and the targets
abbrev pub KeyOf : ℕ → List ℕ → ℕ → Type 0
KeyOf k targets key = key ≡ key_of k (λ x. get_or targets x 0)

module _ (t : Table) (r k : ℕ) (targets : List ℕ) where
  -- a row with the mark and the targets has their key
  pub has_key : (key : ℕ) → KeyOf k targets key → has t r k targets ≡ true → row_key t r ≡ key
  has_key key keyed e =
      let (marks, same) = (and-eq-true_iff (eqb (mark t r) k) _).0 e in
      rw (eqb-true (mark t r) k marks, keyed)
      (same_key k _ _ (λ x h. eqb-true (target t r x) (get_or targets x 0) (all-below _ letters same x h)))

  agrees-used : agrees t r k targets ≡ true → Used t r
  agrees-used e = in-use-used t r ((and-eq-true_iff (in_use t r) (has t r k targets)).0 e).0

  agrees-bucket : (key : ℕ) → KeyOf k targets key → agrees t r k targets ≡ true → bucket t r ≡ bucket_of key
  agrees-bucket key keyed e =
      bucket-used (agrees-used e) ∙ rw (has_key key keyed ((and-eq-true_iff (in_use t r) (has t r k targets)).0 e).1)

-- what is known at row r of the chain: the rows behind it, up to n, do not agree
pub record Seeks (t : Table) (n k : ℕ) (targets : List ℕ) (key r : ℕ) : Type 0 where
  pub low : r ≤ n
  pub there : 0 < r → Used t r × (bucket t r ≡ bucket_of key)
  pub none : (q : ℕ) → r < q → q ≤ n → agrees t q k targets ≡ true → ⊥

module _ {t : Table} {n k : ℕ} {targets : List ℕ} {key : ℕ} where
  pub seeks-next : {r m : ℕ} → KeyOf k targets key → 0 < r → Seeks t n k targets key r → has t r k targets ≡ false
      → Latest (λ q. bucket t q) (bucket t r) r m → Seeks t n k targets key m
  seeks-next {r} {m} keyed some s differs l =
      record {
        low = omega (arith, s.low, l.below);
        there = λ h.
            let (used, here) = s.there some in
            let same = l.there h ∙ here in
            (in-bucket t m _ h (omega (arith, l.below, used.inside)) same, same);
        none = λ q above low e.
            elim (ℕ_discrete q r) [
              | yes d ↦ false≢true (sym differs ∙ ((and-eq-true_iff (in_use t r) (has t r k targets)).0 (rw d at e)).1)
              | no d ↦ elim (lower-or-not q r) [
                | inl lower ↦ l.none q above lower (agrees-bucket t q k targets key keyed e ∙ sym (s.there some).1)
                | inr upper ↦ s.none q (omega arith) low e
              ]
            ];
      }

  -- where n is the last row of the bucket, no row agrees that is behind it
  pub finds-all : {f : ℕ} → KeyOf k targets key → Latest (λ q. bucket t q) (bucket_of key) (row_count t) n → Finds t n k targets f
      → Finds t (row_count t) k targets f
  finds-all {f} keyed l d =
      record {
        low = omega (arith, d.low, l.below);
        there = d.there;
        none = λ none q low e.
            d.none none q (latest-here l q (agrees-used t q k targets e).inside (agrees-bucket t q k targets key keyed e)) e;
      }

-- the mark and the targets of a row in use
module _ (t : Table) (s : ℕ) (used : Used t s) where
  pub row-long : length (row_targets t s) ≡ letters
  row-long = rw (length-take, length-drop) (omega (arith, used.inside))

  pub row-keyed : KeyOf (mark t s) (row_targets t s) (row_key t s)
  row-keyed = same_key (mark t s) _ _ (λ x h. sym (row_target t s x h))

  agree-has : (r : ℕ) → agree t r s ≡ has t r (mark t s) (row_targets t s)
  agree-has r =
      tests_agree _ _
      (λ e.
      let (marks, same) = (and-eq-true_iff (eqb (mark t r) (mark t s)) _).0 e in
      rw marks (below_all _ letters (λ x h. rw (row_target t s x h) (all-below _ letters same x h))))
      (λ e.
      let (marks, same) = (and-eq-true_iff (eqb (mark t r) (mark t s)) _).0 e in
      rw marks (below_all _ letters (λ x h. rw (row_target t s x h) at (all-below _ letters same x h))))

  -- the rows before s in its chain are all that can agree with it
  pub finds-twin : {n f : ℕ} → Latest (λ q. bucket t q) (bucket t s) s n → Finds t n (mark t s) (row_targets t s) f
      → not (eqb f 0) ≡ has_twin t s
  finds-twin {n} {f} l d = tests_agree _ _ found twin
    where
      found : not (eqb f 0) ≡ true → has_twin t s ≡ true
      found e =
          let some = eqb-false f 0 (not-true (eqb f 0) e) in
          let same = d.there (omega arith) in
          below-some _ s f (omega (arith, d.low, l.below)) (rw (agree-has f) same)

      twin : has_twin t s ≡ true → not (eqb f 0) ≡ true
      twin e =
          let (q, below, same) = some_below_lem (λ q. in_use t q && agree t q s) s e in
          let agreed = rw (agree-has q) at same in
          elim (ℕ_discrete f 0) [
            | yes none ↦
                absurd (d.none none q (latest-here l q below (agrees-bucket t q (mark t s) (row_targets t s) (row_key t s) row-keyed agreed ∙ sym (bucket-used used))) agreed)
            | no some ↦ rw (ne_eqb f 0 some)
          ]
