-- `walk_from` meets its promise. The loop's invariant: the whole walk is the walk of what is left from the row where it stands. The measure is
-- what is left. Assumes nothing.
use mathlib.Core.Path.{◌≡◌}
use mathlib.Core.Bool.{true}
use lib.ListN.{length}
use Rattle.rows.specs.Table.{is_row}
use Rattle.walking.specs.Ways.{way}
use Rattle.walking.proofs.walk.walk_from.Given as goal

abbrev pub invariant-loop-left : goal.invariant-loop-left
invariant-loop-left l = (is_row l.t l.row ≡ true) × (way l.t l.word l.first ≡ way l.t l.left l.row)

abbrev pub decreases-loop-left : goal.decreases-loop-left
decreases-loop-left l = length l.left
