-- `find_from` meets its promise. The loop's invariant: the rows behind `r` do not agree, and `r` is in the bucket of the key. The numbers in a chain
-- fall, so the measure is `r`. Assumes nothing.
use Rattle.index.proofs.Seeking.{Seeks}
use Rattle.index.proofs.finds.find_from.Given as goal

abbrev pub invariant-loop-r : goal.invariant-loop-r
invariant-loop-r l = Seeks l.t l.n l.wanted.mark l.wanted.targets.now l.wanted.key l.r

abbrev pub decreases-loop-r : goal.decreases-loop-r
decreases-loop-r l = l.r
