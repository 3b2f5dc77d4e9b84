-- `has_twin` meets its promise: the rows before it in its chain are all that can agree with it. Assumes nothing.
use mathlib.Core.Path.{◌∙◌}
use native.Mathlib.Omega.{arith}
use Rattle.rows.proofs.Facts.{in-use-used}
use Rattle.chains.specs.Chains.{Latest}
use Rattle.index.specs.Buckets.{bucket}
use Rattle.index.proofs.Buckets.{bucket-used}
use Rattle.index.proofs.Seeking.{row-long, row-keyed, finds-twin}
use Rattle.index.proofs.finds.has_twin.Goals as goal
use Rattle.index.proofs.finds.has_twin.Goals.{After-behind-n}

before : (c : After-behind-n) → let t = c.args.t.now in let s = c.args.s in
    Latest (λ q. bucket t q) (bucket t s) s c.behind-n.result
before c =
    let used = in-use-used c.args.t.now c.args.s c.requires.1 in
    rw c.behind-n.ensures (c.requires.0.chained.links _ used.positive used.inside)

pub invariant_of-wanted : goal.invariant_of-wanted
invariant_of-wanted c =
    let used = in-use-used c.args.t.now c.args.s c.requires.1 in
    let key = c.key_at.ensures ∙ c.requires.0.keys.at _ used.inside used in
    record {
      some = rw c.mark.ensures used.marked;
      long = rw c.targets.ensures (row-long c.args.t.now c.args.s used);
      keyed = rw (c.mark.ensures, c.targets.ensures, key) (row-keyed c.args.t.now c.args.s used);
    }

pub find_from-requires : goal.find_from-requires
find_from-requires c =
    let used = in-use-used c.args.t.now c.args.s c.requires.1 in
    let l = before (goal.at.find_from-requires c).After-behind-n in
    let key = c.key_at.ensures ∙ c.requires.0.keys.at _ used.inside used in (
      c.requires.0,
      omega (arith, l.below, used.inside),
      λ some. rw key (l.there some ∙ bucket-used used),
    )

pub returns : goal.returns
returns c =
    let used = in-use-used c.args.t.now c.args.s c.requires.1 in
    finds-twin c.args.t.now c.args.s used (before (goal.at.returns c).After-behind-n) (rw (c.mark.ensures, c.targets.ensures) at c.find_from.ensures)
