use Prim.Native.Nat.{◌<◌}
use mathlib.Core.Path.{sym, ◌∙◌}
use native.Mathlib.Omega.{arith}
use Rattle.chains.specs.Chains.{Latest}
use Rattle.index.specs.Buckets.{bucket}
use Rattle.index.proofs.Seeking.{seeks-next}
use Rattle.index.proofs.finds.find_from.Goals as goal

pub loop-r-preserved : goal.loop-r-preserved
loop-r-preserved c =
    let t = c.args.t.now in
    let r = c.loop-r.r in
    let seeks = c.loop-r.invariant in
    let some : 0 < r = omega arith in
    let next : Latest (λ q. bucket t q) (bucket t r) r c.behind-r.result =
    rw c.behind-r.ensures (c.requires.0.chained.links r some (seeks.there some).0.inside) in
    seeks-next c.args.wanted.keyed some seeks (sym c.is_at.ensures ∙ c.if-is_at.false) next
