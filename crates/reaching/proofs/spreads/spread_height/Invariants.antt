-- `spread_height` meets its promise. The loop's invariant: `r` is 0 or a row of this height, and the rows of this height above `r` have had
-- their turn. The measure is `r`: the order's numbers fall. Assumes nothing.
use Prim.Native.Nat.{suc, ◌<◌}
use mathlib.Core.Path.{◌≡◌}
use Rattle.rows.specs.Table.{most_rows, height}
use Rattle.rows.specs.Tidy.{Used}
use Rattle.reaching.specs.Marks.{Spreads, turn}
use Rattle.reaching.proofs.spreads.spread_height.Given as goal

abbrev pub invariant-loop-r : goal.invariant-loop-r
invariant-loop-r l =
    (0 < l.r → Used l.t l.r × (height l.t l.r ≡ l.h)) × Spreads l.t (turn l.h most_rows) (turn l.h (suc l.r)) l.initial.keep l.keep

abbrev pub decreases-loop-r : goal.decreases-loop-r
decreases-loop-r l = l.r
