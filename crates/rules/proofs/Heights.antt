-- What rule 3 gives for a row in use: its arcs are fine, so its height is the greatest that a target asks for, and that is above 0 exactly if
-- there is a target. Assumes nothing.
use Prim.Native.Nat.{ℕ, zero, suc, max}
use mathlib.Core.Path.{◌≡◌, refl, ◌∙◌}
use mathlib.Core.Bool.{Bool, true, false, ◌&&◌, ◌||◌, and-eq-true_iff}
use lib.Dec.{eqb, leb, ltb}
use native.Mathlib.Omega.{arith}
use borrow.Author.Tests.{ltb-true, ltb-false, eqb-true, lt-ltb, le-ltb, ne_eqb}
use Rattle.letters.specs.Letters.{letters}
use Rattle.letters.specs.Names.{longest}
use Rattle.letters.proofs.Below.{all-below}
use Rattle.sets.specs.Below.{some_below, greatest}
use Rattle.rows.specs.Table.{Table, height, target, in_use}
use Rattle.rows.specs.Rules.{if_used, targets_ok, above, height_ok, number39_ok, arcs_ok, has_target, rule3}
use Rattle.rows.proofs.Facts.{in-use-used}

-- of two numbers one is above 0 where the greater is
max-positive : (a b : ℕ) → ltb 0 (max a b) ≡ (ltb 0 a || ltb 0 b)
max-positive a b = go (ltb 0 a) (ltb 0 b) refl refl
  where
    go : (p q : Bool) → ltb 0 a ≡ p → ltb 0 b ≡ q → ltb 0 (max a b) ≡ (p || q)
    go true q e f = lt-ltb 0 (max a b) (omega (arith, ltb-true 0 a e))
    go false true e f = lt-ltb 0 (max a b) (omega (arith, ltb-true 0 b f))
    go false false e f = le-ltb 0 (max a b) (omega (arith, ltb-false 0 a e, ltb-false 0 b f))

greatest-positive : (n : ℕ) (test : ℕ → Bool) (given : ℕ → ℕ) → ((i : ℕ) → ltb 0 (given i) ≡ test i)
    → ltb 0 (greatest n given) ≡ some_below n test
unfolding some_below greatest
greatest-positive zero test given e = refl
greatest-positive (suc n) test given e = max-positive (greatest n given) (given n) ∙ rw (greatest-positive n test given e, e n)

-- a target asks for something
above-positive : (t : Table) (n : ℕ) → ltb 0 (above t n) ≡ ltb 0 n
above-positive t zero = refl
above-positive t (suc n) = rw (ne_eqb (suc n) 0 (λ e. omega arith), lt-ltb 0 (suc (height t (suc n))) (omega arith), lt-ltb 0 (suc n) (omega arith))

module _ (t : Table) (holds : rule3 t ≡ true) (r : ℕ) (used : in_use t r ≡ true) where
  arcs-fine : arcs_ok t r ≡ true
  unfolding rule3
  arcs-fine = rw used at (all-below (λ s. if_used t s (arcs_ok t s)) _ holds r (in-use-used t r used).inside)

  height-greatest : height t r ≡ greatest letters (λ x. above t (target t r x))
  height-greatest =
      let (_, rest) = (and-eq-true_iff (targets_ok t r) (height_ok t r && number39_ok t r)).0 arcs-fine in
      let (fine, _) = (and-eq-true_iff (height_ok t r) (number39_ok t r)).0 rest in
      eqb-true (height t r) _ ((and-eq-true_iff (eqb (height t r) _) (leb (height t r) longest)).0 fine).0

  pub has-target : ltb 0 (height t r) ≡ has_target t r
  has-target =
      rw height-greatest (greatest-positive letters (λ x. ltb 0 (target t r x)) (λ x. above t (target t r x)) (λ x. above-positive t (target t r x)))
