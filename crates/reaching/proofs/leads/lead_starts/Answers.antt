use native.Mathlib.Omega.{arith}
use Rattle.rows.proofs.Facts.{named-inside}
use Rattle.rows.proofs.Books.{start-named}
use Rattle.reaching.proofs.Leading.{starts_none, starts-one-more, starts_fit}
use Rattle.reaching.proofs.leads.lead_starts.Goals as goal

pub loop-m-init : goal.loop-m-init
loop-m-init c = starts_none c.args.t.now _

pub lead-requires : goal.lead-requires
lead-requires c =
    let t = c.args.t.now in
    let (tidy, counted) = c.requires in
    let m = c.loop-m.m in
    let added = c.loop-m.invariant in
    let named = start-named t tidy m (omega arith) in
    rw c.start.ensures (
      omega (arith, named-inside t tidy _ named, added.long, counted.long),
      starts_fit m _ tidy counted added (omega arith) named,
    )

pub loop-m-preserved : goal.loop-m-preserved
loop-m-preserved c = starts-one-more c.args.t.now c.loop-m.m c.loop-m.invariant c.start.ensures c.lead.ensures
