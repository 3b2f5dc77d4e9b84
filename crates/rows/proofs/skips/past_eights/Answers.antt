use mathlib.Core.Path.{sym, ◌∙◌}
use Rattle.rows.proofs.Skipping.{zeros-none, zeros-both, zeros-eight}
use native.Mathlib.Omega.{arith}
use Rattle.rows.proofs.skips.past_eights.Goals as goal

pub loop-e-init : goal.loop-e-init
loop-e-init c = (zeros-none _, omega arith)

pub returns-then-not-eight_zeros : goal.returns-then-not-eight_zeros
returns-then-not-eight_zeros c =
    let (zeros, to) = c.loop-e.invariant in
    let some = sym c.eight_zeros.ensures ∙ c.if-not-eight_zeros.true in
    record { before = zeros; to = to; stops = λ _. some }

pub loop-e-preserved : goal.loop-e-preserved
loop-e-preserved c =
    let l = c.loop-e in
    let zeros = sym c.eight_zeros.ensures ∙ c.if-not-eight_zeros.false in
    (zeros-both l.invariant.0 (zeros-eight _ zeros), omega arith)

pub returns : goal.returns
returns c =
    let (zeros, to) = c.loop-e.invariant in
    record { before = zeros; to = to; stops = λ h. absurd (omega arith) }
