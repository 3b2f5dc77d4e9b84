use native.Mathlib.Omega.{arith}
use Rattle.rows.proofs.Stepping.{goes, gone}
use Rattle.reaching.proofs.Leading.{paid-at-once, paid-none, paid-past, paid-all, paying-none, paying-more, end-used, end-lower, arc-owes}
use Rattle.reaching.proofs.leads.+release.Goals as goal

pub returns-then-leads-n-ne0 : goal.returns-then-leads-n-ne0
returns-then-leads-n-ne0 bound c = let (_, used, _) = c.requires in λ debt o. paid-at-once debt used o (omega (arith, c.if-leads-n-ne0.true))

pub loop-s-init : goal.loop-s-init
loop-s-init bound c =
    let arcs = c.arcs_of-s-items.ensures in
    rw c.into_iter-s-iterator.ensures.into_iter_gives (record { table = arcs.table; row = arcs.row }, paying-none arcs.from)

pub release-requires : goal.release-requires
release-requires bound c =
    let (tidy, used, (debt, o)) = c.requires in
    let (arcs, paying) = c.loop-s.invariant in
    let one = goes arcs c.in-Some.ensures.steps in (
      omega (arith, end-lower one tidy used, c.decreases),
      (tidy, end-used one tidy used, arc-owes one (paying debt (paid-none debt used o c.if-leads-n-ne0.false))),
    )

pub loop-s-preserved : goal.loop-s-preserved
loop-s-preserved bound c =
    let (arcs, paying) = c.loop-s.invariant in
    let one = goes arcs c.in-Some.ensures.steps in
    (one.still, paying-more one paying c.release.ensures)

pub returns : goal.returns
returns bound c =
    let (_, used, _) = c.requires in
    let (arcs, paying) = c.loop-s.invariant in
    λ debt o. paid-all (paid-past (gone arcs c.in-None.ensures.steps) (paying debt (paid-none debt used o c.if-leads-n-ne0.false)))
