-- `mission_of` meets its promise: a headed line's bytes 2 and 3 are digits, so no difference goes below 0 and the sum is at most 99.
-- Assumes nothing.
use native.Mathlib.Omega.{arith}
use Rattle.lines.proofs.Headed.{Headed, headed-is}
use Rattle.lines.proofs.requests.mission_of.Goals as goal
use Rattle.lines.proofs.requests.mission_of.Goals.{Start}

headed : (c : Start) → Headed c.args.line.now
headed c = headed-is _ c.requires

pub bounds-line-2 : goal.bounds-line-2
bounds-line-2 c = omega (arith, headed (goal.at.bounds-line-2 c).Start)

pub overflow_sub-result : goal.overflow_sub-result
overflow_sub-result c = omega (arith, headed (goal.at.overflow_sub-result c).Start)

pub overflow_cast-result : goal.overflow_cast-result
overflow_cast-result c = omega (arith, headed (goal.at.overflow_cast-result c).Start)

pub overflow_mul-result : goal.overflow_mul-result
overflow_mul-result c = omega (arith, headed (goal.at.overflow_mul-result c).Start)

pub bounds-line-3 : goal.bounds-line-3
bounds-line-3 c = omega (arith, headed (goal.at.bounds-line-3 c).Start)

pub overflow_sub-result-2 : goal.overflow_sub-result-2
overflow_sub-result-2 c = omega (arith, headed (goal.at.overflow_sub-result-2 c).Start)

pub overflow_cast-result-2 : goal.overflow_cast-result-2
overflow_cast-result-2 c = omega (arith, headed (goal.at.overflow_cast-result-2 c).Start)

pub overflow_add-result : goal.overflow_add-result
overflow_add-result c = omega (arith, headed (goal.at.overflow_add-result c).Start)
