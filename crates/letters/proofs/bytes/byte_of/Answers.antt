-- `byte_of` meets its promise: each way through the `match` leads to one range of numbers, of which `byte_of` says what that way answers.
-- Assumes nothing.
use Prim.Native.Nat.{ℕ, ◌+◌, ◌-◌, ◌≤◌, ◌<◌}
use mathlib.Core.Path.{◌≡◌, sym}
use native.Mathlib.Omega.{arith}
use Rattle.letters.specs.Letters.{byte_of}
use Rattle.letters.proofs.Ranges.{within_both, within-below, within-above}
use Rattle.letters.proofs.bytes.byte_of.Goals as goal

-- what `byte_of` says of a number of each range
module _ (x : ℕ) where
  digit : 1 ≤ x → x ≤ 10 → byte_of x ≡ 0x30 + (x - 1)
  unfolding byte_of
  digit l h = rw (within_both 1 10 x l h)

  capital : 11 ≤ x → x ≤ 36 → byte_of x ≡ 0x41 + (x - 11)
  unfolding byte_of
  capital l h = rw (within-above 1 10 x (omega arith), within_both 11 36 x l h)

  below-digits : x < 1 → byte_of x ≡ 0x5F
  unfolding byte_of
  below-digits h = rw (within-below 1 10 x h, within-below 11 36 x (omega arith))

  above-capitals : 36 < x → byte_of x ≡ 0x5F
  unfolding byte_of
  above-capitals h = rw (within-above 1 10 x (omega arith), within-above 11 36 x h)

pub returns-in-1-to-10 : goal.returns-in-1-to-10
returns-in-1-to-10 c = sym (digit _ (omega arith) (omega arith))

pub returns-in-11-to-36 : goal.returns-in-11-to-36
returns-in-11-to-36 c = sym (capital _ (omega arith) (omega arith))

pub returns-in_default : goal.returns-in_default
returns-in_default c = sym (below-digits _ (omega arith))

pub returns-in_default-2 : goal.returns-in_default-2
returns-in_default-2 c = sym (above-capitals _ (omega arith))
