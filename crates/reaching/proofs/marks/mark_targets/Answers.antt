use native.Mathlib.Omega.{arith}
use Rattle.rows.proofs.Stepping.{goes, gone}
use Rattle.reaching.proofs.Leading.{end-used}
use Rattle.reaching.proofs.Marking.{given-none, targets-past, targets-more}
use Rattle.reaching.proofs.marks.mark_targets.Goals as goal

pub loop-n-init : goal.loop-n-init
loop-n-init c =
    let arcs = c.arcs_of-n-items.ensures in
    rw c.into_iter-n-iterator.ensures.into_iter_gives (record { table = arcs.table; row = arcs.row }, rw arcs.from (given-none _ _))

pub loop-n-preserved : goal.loop-n-preserved
loop-n-preserved c =
    let (arcs, marked) = c.loop-n.invariant in
    let one = goes arcs c.in-Some.ensures.steps in
    let row = end-used one c.requires.0 c.requires.1 in
    (one.still, targets-more one (omega (arith, row.inside)) marked)

pub returns : goal.returns
returns c =
    let (arcs, marked) = c.loop-n.invariant in
    targets-past (gone arcs c.in-None.ensures.steps) marked
