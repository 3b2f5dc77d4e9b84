-- `past_eights` meets its promise. The loop's invariant: the numbers before `e` are 0. The measure is the numbers that are left.
-- Assumes nothing.
use Prim.Native.Nat.{◌-◌, ◌≤◌}
use Rattle.rows.specs.Skips.{Zeros}
use Rattle.rows.proofs.skips.past_eights.Given as goal

abbrev pub invariant-loop-e : goal.invariant-loop-e
invariant-loop-e l = Zeros l.s l.a l.e × (l.e ≤ l.end)

abbrev pub decreases-loop-e : goal.decreases-loop-e
decreases-loop-e l = l.end - l.e
