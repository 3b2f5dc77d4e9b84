-- `write_from` meets its promise: the letters walked as a line, where a name may end at the row, and behind it arc by arc the lines from the targets.
-- The loop's invariant: the lines from the targets of the letters before the one that the arcs go on from are written behind what was written
-- before the loop, and the letters walked are those of the call. The measure of the recursion is what the row asks of a height: a target asks for
-- less. Assumes nothing.
use mathlib.Core.Path.{◌≡◌}
use Rattle.rows.specs.Rules.{above}
use Rattle.rows.specs.Arcs.{ArcsOf}
use Rattle.listing.proofs.Writing.{SoFar}
use Rattle.listing.proofs.lists.+write_from.Given as goal

abbrev pub invariant-loop-x : goal.invariant-loop-x
invariant-loop-x l =
    ArcsOf l.t l.r l.x-iterator × SoFar l.t l.r l.fn.word l.initial.out l.initial.bytes l.out l.bytes l.x-iterator.from × (l.word ≡ l.fn.word)

abbrev pub decreases-write_from : goal.decreases-write_from
decreases-write_from l = above l.t.now l.r
