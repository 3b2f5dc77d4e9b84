use Prim.Native.Nat.{suc}
use native.Mathlib.Omega.{arith}
use mathlib.Core.Path.{◌≡◌, sym}
use Rattle.std.specs.Prelude.{min}
use Rattle.letters.proofs.LetterSet.{flag-le}
use Rattle.sets.specs.Cut.{most_names}
use Rattle.rows.specs.Table.{ends}
use Rattle.rows.proofs.Stepping.{goes, gone}
use Rattle.counting.proofs.Filling.{word-sums, none_yet, one_more, sum-small, sum_number, row-numbered}
use Rattle.counting.proofs.counts.+count_from.Goals as goal

pub returns-then-n-eq0-clause-number : goal.returns-then-n-eq0-clause-number
returns-then-n-eq0-clause-number bound c = rw c.if-n-eq0.true (sym (word-sums c.args.t.now c.requires.0.tidy).none)

pub loop-s-init : goal.loop-s-init
loop-s-init bound c =
    let counts = c.requires.0 in
    let arcs = c.arcs_of-s-items.ensures in
    rw c.into_iter-s-iterator.ensures.into_iter_gives
    (record { table = arcs.table; row = arcs.row }, none_yet (word-sums _ counts.tidy) counts c.ends_count-sum.ensures arcs.from)

pub overflow_add-sum : goal.overflow_add-sum
overflow_add-sum bound c =
    let (arcs, so_far) = c.loop-s.invariant in
    let args = c.args in
    omega (
      arith,
      sum-small (word-sums _ so_far.counts.tidy) so_far c.loop-s.s-iterator.to,
      flag-le (ends args.t.now args.n),
      c.count_from.ensures.number,
    )

pub loop-s-preserved : goal.loop-s-preserved
loop-s-preserved bound c =
    let (arcs, so_far) = c.loop-s.invariant in
    let one = goes arcs c.in-Some.ensures.steps in
    let counted = c.count_from.ensures in
    (one.still, one_more (word-sums _ so_far.counts.tidy) so_far one counted.counted counted.number)

pub returns : goal.returns
returns bound c =
    let (arcs, so_far) = c.loop-s.invariant in
    let none = gone arcs c.in-None.ensures.steps in
    let row = c.requires.1 (omega arith) in
    let law = word-sums _ so_far.counts.tidy in
    let cut : c.cut-all.result ≡ min c.loop-s.sum (suc most_names) = omega (arith, c.cut-all.ensures) in
    record { counted = row-numbered law so_far row none cut; number = sum_number law so_far row none cut }
