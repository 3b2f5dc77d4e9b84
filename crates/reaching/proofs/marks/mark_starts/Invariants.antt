-- `mark_starts` meets its promise. The loop's invariant: the starts of the missions below `m` are marked. A start is 0 or a row, so the array
-- has a number for it. Assumes nothing.
use Rattle.rows.specs.Table.{start}
use Rattle.reaching.specs.Marks.{MarksMore}
use Rattle.reaching.proofs.Marking.{given_below}
use Rattle.reaching.proofs.marks.mark_starts.Given as goal

abbrev pub invariant-loop-m : goal.invariant-loop-m
invariant-loop-m l = MarksMore (λ s. given_below (λ n. start l.t n) l.m s) l.initial.keep l.keep
