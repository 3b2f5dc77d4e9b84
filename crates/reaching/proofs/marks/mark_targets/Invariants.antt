-- `mark_targets` meets its promise. The loop's invariant: the targets of the letters below the one that the arcs go on from are marked. A target is 0
-- or a row, so the array has a number for it, and letters without a target give nothing to mark. Assumes nothing.
use Rattle.rows.specs.Table.{target}
use Rattle.rows.specs.Arcs.{ArcsOf}
use Rattle.reaching.specs.Marks.{MarksMore}
use Rattle.reaching.proofs.Marking.{given_below}
use Rattle.reaching.proofs.marks.mark_targets.Given as goal

abbrev pub invariant-loop-n : goal.invariant-loop-n
invariant-loop-n l =
    ArcsOf l.t l.r l.n-iterator × MarksMore (λ s. given_below (λ y. target l.t l.r y) l.n-iterator.from s) l.initial.keep l.keep
