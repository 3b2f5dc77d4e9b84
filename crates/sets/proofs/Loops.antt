-- What a loop over the numbers below n knows of its test: while it goes on, the test passed at every number so far, or at none of them; and
-- where it has passed n, at all or none below n. Assumes nothing.
use Prim.Native.Nat.{ℕ, ◌+◌, ◌≤◌}
use native.Mathlib.Numerals.{add-one}
use native.Mathlib.Omega.{arith}
use mathlib.Core.Path.{◌≡◌, sym, ◌∙◌}
use mathlib.Core.Bool.{Bool, true, false, false≢true}
use Rattle.letters.specs.Below.{all_below}
use Rattle.letters.proofs.Below.{all-below, below_all}
use Rattle.sets.specs.Below.{some_below}
use Rattle.sets.proofs.Membership.{fails}
use Rattle.sets.proofs.Below.{some_below_lem, below-some}

module _ (test : ℕ → Bool) (i : ℕ) where
  pub all_more : all_below i test ≡ true → test i ≡ true → all_below (i + 1) test ≡ true
  unfolding all_below
  all_more before now = rw (add-one, before, now)

  pub all_done : (n : ℕ) → all_below i test ≡ true → n ≤ i → all_below n test ≡ true
  all_done n before h = below_all test n (λ j below. all-below test i before j (omega arith))

  pub none_more : some_below i test ≡ false → test i ≡ false → some_below (i + 1) test ≡ false
  unfolding some_below
  none_more before now = rw (add-one, before, now)

  pub none_done : (n : ℕ) → some_below i test ≡ false → n ≤ i → some_below n test ≡ false
  none_done n before h =
      fails (some_below n test) (λ e. let (j, below, d) = some_below_lem test n e in false≢true (sym before ∙ below-some test i j (omega arith) d))
