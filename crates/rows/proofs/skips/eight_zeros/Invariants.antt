-- `eight_zeros` meets its promise. The loop's invariant: the bits of the numbers so far are none exactly if they are zeros. Assumes nothing.
use mathlib.Core.Path.{◌≡◌}
use Prim.Native.Nat.{◌+◌}
use lib.Dec.{eqb}
use lib.ListN.{get_or}
use Rattle.letters.specs.Below.{all_below}
use Rattle.rows.proofs.skips.eight_zeros.Given as goal

abbrev pub invariant-loop-n : goal.invariant-loop-n
invariant-loop-n l = eqb l.all 0 ≡ all_below l.n-index (λ j. eqb (get_or l.s (l.a + j) 0) 0)
