use mathlib.Core.Path.{◌∙◌, sym}
use native.Mathlib.Omega.{arith}
use Rattle.letters.specs.LetterSet.{flag}
use Rattle.letters.proofs.LetterSet.{flag-le}
use Rattle.rows.specs.Table.{ends}
use Rattle.rows.proofs.Stepping.{goes, gone}
use Rattle.counting.specs.Counts.{count_at}
use Rattle.counting.proofs.Ahead.{ahead_none, ahead-skip, ahead_more}
use Rattle.counting.proofs.counts.words_ahead.Goals as goal

pub loop-y-init : goal.loop-y-init
loop-y-init c =
    let args = c.args in
    let arcs = c.arcs_of-y-items.ensures in
    let none = ahead_none (flag (ends args.t.now args.r)) (λ s. count_at args.counts.now s) args.t.now args.r arcs.from in
    rw c.into_iter-y-iterator.ensures.into_iter_gives (
      record { table = arcs.table; row = arcs.row },
      omega (arith, arcs.from),
      omega (arith, arcs.from, c.ends_count-n.ensures, flag-le (ends args.t.now args.r)),
      c.ends_count-n.ensures ∙ sym none,
    )

pub loop-y-preserved : goal.loop-y-preserved
loop-y-preserved c =
    let (arcs, to, few, all) = c.loop-y.invariant in
    let args = c.args in
    let one = goes arcs c.in-Some.ensures.steps in
    let own = flag (ends args.t.now args.r) in
    let more = ahead_more own (λ s. count_at args.counts.now s) c.requires.4 one in (
      one.still,
      omega (arith, one.from),
      omega (arith, few, one.from, one.next.from, c.count_at.type_inv),
      omega (arith, all, more, c.count_at.ensures),
    )

pub returns-in-None : goal.returns-in-None
returns-in-None c =
    let (arcs, to, few, all) = c.loop-y.invariant in
    let args = c.args in
    let none = gone arcs c.in-None.ensures.steps in
    all ∙ sym (ahead-skip (flag (ends args.t.now args.r)) (λ s. count_at args.counts.now s) c.requires.4 none args.x to c.requires.2)

pub returns-then-x-y : goal.returns-then-x-y
returns-then-x-y c =
    let (arcs, to, few, all) = c.loop-y.invariant in
    let args = c.args in
    let one = goes arcs c.in-Some.ensures.steps in
    all ∙ sym (ahead-skip (flag (ends args.t.now args.r)) (λ s. count_at args.counts.now s) c.requires.4 one.next args.x to c.if-x-y.true)
