-- `past_ones` meets its promise. The loop's invariant: the numbers before `e` are 0. Assumes nothing.
use Rattle.rows.specs.Skips.{Zeros}
use Rattle.rows.proofs.skips.past_ones.Given as goal

abbrev pub invariant-loop-e : goal.invariant-loop-e
invariant-loop-e l = Zeros l.s l.a l.e
