-- `letter_of` meets its promise: each way through the `match` leads to one range of bytes, of which `letter` says what that way answers.
-- Assumes nothing.
use Prim.Native.Nat.{ℕ, ◌+◌, ◌-◌, ◌≤◌, ◌<◌}
use mathlib.Core.Path.{◌≡◌, sym}
use native.Mathlib.Omega.{arith}
use borrow.Author.Tests.{ne_eqb}
use Rattle.letters.specs.Letters.{letters, letter}
use Rattle.letters.proofs.Ranges.{within_both, within-below, within-above, above-capitals}
use Rattle.letters.proofs.bytes.letter_of.Goals as goal

-- what `letter` says of a byte of each range
module _ (b : ℕ) where
  digit : 0x30 ≤ b → b ≤ 0x39 → letter b ≡ b - 0x30 + 1
  unfolding letter
  digit l h = rw (ne_eqb b 0x5F (omega arith), within_both 0x30 0x39 b l h)

  capital : 0x41 ≤ b → b ≤ 0x5A → letter b ≡ b - 0x41 + 11
  unfolding letter
  capital l h = rw (ne_eqb b 0x5F (omega arith), within-above 0x30 0x39 b (omega arith), within_both 0x41 0x5A b l h)

  below-digits : b < 0x30 → letter b ≡ letters
  unfolding letter
  below-digits h = rw (ne_eqb b 0x5F (omega arith), within-below 0x30 0x39 b h, within-below 0x41 0x5A b (omega arith))

  below-capitals : 0x39 < b → b < 0x41 → letter b ≡ letters
  unfolding letter
  below-capitals l h = rw (ne_eqb b 0x5F (omega arith), within-above 0x30 0x39 b l, within-below 0x41 0x5A b h)

-- the underscore
pub returns-in-95 : goal.returns-in-95
unfolding letter
returns-in-95 c = rw c.in-95.is

pub returns-in-48-to-57 : goal.returns-in-48-to-57
returns-in-48-to-57 c = sym (digit _ (omega arith) (omega arith))

pub returns-in-65-to-90 : goal.returns-in-65-to-90
returns-in-65-to-90 c = sym (capital _ (omega arith) (omega arith))

pub returns-in_default : goal.returns-in_default
returns-in_default c = sym (below-digits _ (omega arith))

pub returns-in_default-2 : goal.returns-in_default-2
returns-in_default-2 c = sym (below-capitals _ (omega arith) (omega arith))

pub returns-in_default-3 : goal.returns-in_default-3
returns-in_default-3 c = sym (above-capitals _ (omega arith) (omega arith))
