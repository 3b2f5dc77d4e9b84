-- A test passes at all numbers below n exactly if it passes at each of them. And what is put together from what the numbers below n give, one
-- after the other, is the same where they give the same: one law, whatever the way of putting together. Assumes nothing.
use Prim.Native.Nat.{ℕ, zero, suc, ◌<◌}
use native.Mathlib.Omega.{arith}
use native.Mathlib.Decide.{ℕ_discrete}
use mathlib.Core.Path.{◌≡◌, refl, sym, ◌∙◌}
use mathlib.Core.Bool.{Bool, true, false, false≢true, and-eq-true_iff}
use Rattle.letters.specs.Below.{all_below}
use Rattle.letters.proofs.Tests.{by-test}

module _ (test : ℕ → Bool) where
  pub all-below : (n : ℕ) → all_below n test ≡ true → (i : ℕ) → i < n → test i ≡ true
  unfolding all_below
  all-below zero h i below = absurd (omega arith)
  all-below (suc n) h i below =
      let (rest, last) = (and-eq-true_iff (all_below n test) (test n)).0 h in
      elim (ℕ_discrete i n) [ yes e ↦ rw e last | no e ↦ all-below n rest i (omega arith) ]

  pub below_all : (n : ℕ) → ((i : ℕ) → i < n → test i ≡ true) → all_below n test ≡ true
  unfolding all_below
  below_all zero f = refl
  below_all (suc n) f = rw (below_all n (λ i h. f i (omega arith)), f n (omega arith))

  pub not_all_below : (n i : ℕ) → i < n → test i ≡ false → all_below n test ≡ false
  not_all_below n i h e = by-test (all_below n test) (λ all. absurd (false≢true (sym e ∙ all-below n all i h))) (λ not-all. not-all)

module _ {A B : Type 0} (over : ℕ → (ℕ → A) → B) (none : (f g : ℕ → A) → over 0 f ≡ over 0 g)
    (more : (n : ℕ) (f g : ℕ → A) → over n f ≡ over n g → f n ≡ g n → over (suc n) f ≡ over (suc n) g) where
  pub agree-below : (n : ℕ) (f g : ℕ → A) → ((i : ℕ) → i < n → f i ≡ g i) → over n f ≡ over n g
  agree-below zero f g e = none f g
  agree-below (suc n) f g e = more n f g (agree-below n f g (λ i h. e i (omega arith))) (e n (omega arith))
