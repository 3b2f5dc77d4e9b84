-- `gap` meets its promise. The loop's invariant: the place is that of the whole chain or of a row of it behind `r`. The measure is the row that stands
-- there, since the numbers in a chain fall. Assumes nothing.
use lib.ListN.{get_or}
use Rattle.index.specs.Index.{LinkAbove}
use Rattle.index.proofs.enters.gap.Given as goal

abbrev pub invariant-loop-place : goal.invariant-loop-place
invariant-loop-place l = LinkAbove l.index l.b l.r l.place

abbrev pub decreases-loop-place : goal.decreases-loop-place
decreases-loop-place l = get_or l.index l.place 0
