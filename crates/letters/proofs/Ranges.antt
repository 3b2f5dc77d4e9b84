-- The ranges of bytes and of letter numbers, for the proofs of this crate alone: a number is within two bounds, or below them, or above. What is
-- said of all bytes is one test that computes, over those up to the underscore: no byte behind it is a letter. Assumes nothing.
use Prim.Native.Nat.{ℕ, ◌≤◌, ◌<◌}
use mathlib.Core.Path.{◌≡◌}
use mathlib.Core.Bool.{Bool, true, false, and-false}
use mathlib.Core.Logic.{◌⊎◌, inl, inr}
use native.Mathlib.Omega.{arith}
use borrow.Author.Tests.{le-leb, lt-leb, ltb-true, ltb-false, ne_eqb}
use lib.Dec.{leb, ltb}
use Rattle.letters.specs.Below.{all_below}
use Rattle.letters.specs.Letters.{letters, within, letter}
use Rattle.letters.proofs.Tests.{by-test}
use Rattle.letters.proofs.Below.{all-below}

module _ (low high b : ℕ) where
  pub within_both : low ≤ b → b ≤ high → within low high b ≡ true
  within_both l h = rw (le-leb low b l) (le-leb b high h)

  pub within-below : b < low → within low high b ≡ false
  within-below h = rw (lt-leb low b h)

  pub within-above : high < b → within low high b ≡ false
  within-above h = rw (lt-leb b high h) (and-false (leb low b))

-- the byte behind the underscore, which is the last that is a letter
abbrev pub behind_letters : ℕ
behind_letters = 0x60

pub above-capitals : (b : ℕ) → 0x5A < b → (b ≡ 0x5F → ⊥) → letter b ≡ letters
unfolding letter
above-capitals b h other = rw (ne_eqb b 0x5F other, within-above 0x30 0x39 b (omega arith), within-above 0x41 0x5A b h)

pub each-byte : (test : ℕ → Bool) → all_below behind_letters test ≡ true → (b : ℕ) → (test b ≡ true) ⊎ (letter b ≡ letters)
each-byte test all b =
    by-test (ltb b behind_letters)
    (λ e. inl (all-below test behind_letters all b (ltb-true b behind_letters e)))
    (λ e. let high = ltb-false b behind_letters e in inr (above-capitals b (omega arith) (omega arith)))
