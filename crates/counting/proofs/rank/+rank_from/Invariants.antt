-- `rank_from` meets its promise: no word stands before the empty one, and from 0 there is none; else the words ahead of the first letter stand
-- before, and at that letter's target those that stand before what is left. The measure is what is left of the name. Assumes nothing.
use lib.ListN.{length}
use Rattle.counting.proofs.rank.+rank_from.Given as goal

abbrev pub decreases-rank_from : goal.decreases-rank_from
decreases-rank_from l = length l.name.now
