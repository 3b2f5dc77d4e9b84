use native.Mathlib.Omega.{arith}
use mathlib.Core.Path.{sym, ◌∙◌}
use Rattle.rows.proofs.Stepping.{goes, gone}
use Rattle.counting.proofs.Filling.{none_yet, one_more, sum-small, sum_number, row-numbered}
use Rattle.listing.proofs.Sizing.{size-sums}
use Rattle.listing.proofs.sizes.+size_from.Goals as goal

pub returns-then-n-eq0-clause-number : goal.returns-then-n-eq0-clause-number
returns-then-n-eq0-clause-number bound c = rw c.if-n-eq0.true (sym (size-sums c.args.t.now c.requires.0.tidy).none)

pub loop-s-init : goal.loop-s-init
loop-s-init bound c =
    let (counts, counted, sizes) = c.requires in
    let row = counted (omega arith) in
    let arcs = c.arcs_of-s-items.ensures in
    let own = c.count_at-sum.ensures ∙ counts.counted _ row.used row.some in
    rw c.into_iter-s-iterator.ensures.into_iter_gives
    (record { table = arcs.table; row = arcs.row }, none_yet (size-sums _ sizes.tidy) sizes own arcs.from)

pub overflow_add-sum : goal.overflow_add-sum
overflow_add-sum bound c =
    let (arcs, so_far) = c.loop-s.invariant in
    omega (arith, sum-small (size-sums _ so_far.counts.tidy) so_far c.loop-s.s-iterator.to, c.size_from-sum.ensures.number)

pub loop-s-preserved : goal.loop-s-preserved
loop-s-preserved bound c =
    let (arcs, so_far) = c.loop-s.invariant in
    let one = goes arcs c.in-Some.ensures.steps in
    let counted = c.size_from-sum.ensures in
    (one.still, one_more (size-sums _ so_far.counts.tidy) so_far one counted.counted counted.number)

pub returns : goal.returns
returns bound c =
    let (arcs, so_far) = c.loop-s.invariant in
    let none = gone arcs c.in-None.ensures.steps in
    let row = (c.requires.1 (omega arith)).used in
    let law = size-sums _ so_far.counts.tidy in
    let cut = c.cut_size-all.ensures in
    record { counted = row-numbered law so_far row none cut; number = sum_number law so_far row none cut }
