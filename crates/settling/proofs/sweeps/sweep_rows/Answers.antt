use native.Mathlib.Omega.{arith}
use Rattle.settling.proofs.Sweeping.{stays-first, stays-more, stays-done}
use Rattle.settling.proofs.sweeps.sweep_rows.Goals as goal

pub loop-r-init : goal.loop-r-init
loop-r-init c = stays-first c.args.t.now c.args.keep.now

pub loop-r-preserved : goal.loop-r-preserved
loop-r-preserved c =
    let l = c.loop-r in
    stays-more c.args.t.now c.args.keep.now l.t _ l.r l.invariant c.sweep_row.ensures

pub returns : goal.returns
returns c =
    let l = c.loop-r in
    stays-done c.args.t.now c.args.keep.now l.t l.r c.requires.0 (omega (arith, c.row_count-r-end.ensures)) l.invariant
