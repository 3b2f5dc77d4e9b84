use Prim.Native.Nat.{suc, ◌+◌}
use mathlib.Core.Path.{◌≡◌}
use native.Mathlib.Omega.{arith}
use lib.ListN.{get_or}
use Rattle.rows.specs.Table.{height}
use Rattle.rows.specs.Tidy.{Used}
use Rattle.chains.specs.Chains.{Latest}
use Rattle.chains.specs.Orders.{level, levels}
use Rattle.chains.proofs.Levels.{last-latest, latest-row, before-latest}
use Rattle.reaching.proofs.Spreading.{spreads-both, height-begun, height-further, height-done}
use Rattle.reaching.proofs.spreads.spread_height.Goals as goal
use Rattle.reaching.proofs.spreads.spread_height.Goals.{In-loop-r}

-- in the loop `r` is a row of this height, and the row before it is found in the order
row : (c : In-loop-r) →
    let args = c.args in
    let r = c.loop-r.r in
    Used args.t.now r × (height args.t.now r ≡ args.h)
row c = c.loop-r.invariant.0 (omega arith)

next : (c : In-loop-r) →
    let args = c.args in
    let r = c.loop-r.r in
    Latest (λ s. level args.t.now s) (suc args.h) r (get_or args.order.now (levels + r) 0)
next c = before-latest c.requires.3 (row c).0 (row c).1

pub loop-r-init : goal.loop-r-init
loop-r-init c =
    let last = last-latest c.args.t.now c.args.order.now c.requires.3 c.args.h c.requires.2 in
    rw c.last_at-r.ensures (latest-row last, height-begun c.requires.0 c.args.h c.requires.1 last)

pub loop-r-preserved : goal.loop-r-preserved
loop-r-preserved c =
    let h = c.args.h in
    let l = c.loop-r in
    let spread = rw (row (goal.at.loop-r-preserved c).In-loop-r).1 at c.spread_row.ensures in
    let further = height-further c.requires.0 h spread.roots (omega (arith, (row (goal.at.loop-r-preserved c).In-loop-r).0.inside, c.requires.0.most)) (next (goal.at.loop-r-preserved c).In-loop-r) in
    rw c.row_before-r.ensures
    (latest-row (next (goal.at.loop-r-preserved c).In-loop-r), spreads-both l.invariant.1 (spreads-both spread further))

pub returns : goal.returns
returns c =
    let l = c.loop-r in
    let all : l.r ≡ 0 = omega arith in
    spreads-both (rw all at l.invariant.1) (height-done c.requires.0 c.args.h l.invariant.1.roots)
