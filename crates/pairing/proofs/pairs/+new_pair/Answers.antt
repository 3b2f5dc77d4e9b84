use Prim.Native.Nat.{ℕ, ◌<◌}
use mathlib.Core.Path.{refl, sym, ◌∙◌}
use native.Mathlib.Omega.{arith}
use Rattle.std.proofs.lemmas.Result.{err_from_is_err_and}
use Rattle.letters.specs.Letters.{letters}
use Rattle.pairing.specs.Pairs.{Pair, Both}
use Rattle.pairing.proofs.Pairing.{rows_few, settles-made, known-settles, unknown-both, none_yet}
use Rattle.pairing.proofs.Pairing.{next-pair, next-lower, one_more, no_room_lem, all-ready, all_made}
use Rattle.pairing.proofs.pairs.+new_pair.Goals as goal
use Rattle.pairing.proofs.pairs.+new_pair.Goals.{After-target-k, At-loop-x, in-Some, in-None+in_ok-targets-in-None}

rows_of : (bound : ℕ) → (l : At-loop-x bound) → let args = l.args in
    Both args.t.now args.p args.q
rows_of bound l = l.requires.0

letter : (bound : ℕ) → (c : After-target-k bound) → c.loop-x.x < letters
letter bound c = omega arith

next : (bound : ℕ) → (c : After-target-k bound) → Pair c.loop-x.t c.target-n.result c.target-k.result
next bound c =
    next-pair (rows_of bound (goal.at.After-target-k bound c).At-loop-x) c.loop-x.invariant.0 (letter bound c) c.target-n.ensures c.target-k.ensures

pub loop-x-init : goal.loop-x-init
loop-x-init bound c =
    let (rows, settled, indexed) = c.requires in
    (none_yet rows settled, indexed, refl)

pub known-requires : goal.known-requires
known-requires bound c =
    let settled = c.loop-x.invariant.0.settled in
    let few = rows_few (next bound c) settled in
    (settled.wide, few.0, few.1, few.2)

pub new_pair-requires : goal.new_pair-requires
new_pair-requires bound c =
    let (so_far, indexed, long) = c.loop-x.invariant in
    let at = goal.at.new_pair-requires bound c in
    let before = at.After-target-k in
    let lower = next-lower (rows_of bound at.At-loop-x) so_far (letter bound before) c.target-n.ensures c.target-k.ensures in (
      omega (arith, c.decreases),
      (unknown-both (next bound before) so_far.settled (sym c.in-None.ensures), so_far.settled, indexed),
    )

pub returns-in_err-targets-in-None-clause-combines : goal.returns-in_err-targets-in-None-clause-combines
returns-in_err-targets-in-None-clause-combines bound c =
    let at = goal.at.returns-in_err-targets-in-None-clause-combines bound c in
    let error = err_from_is_err_and c.from_residual.result c.from_residual.ensures.1 in
    rw error.1
    (no_room_lem (rows_of bound at.At-loop-x) c.loop-x.invariant.0 (letter bound at.After-target-k) c.target-n.ensures c.target-k.ensures
    c.in_err-targets-in-None.ensures.combines)

pub loop-x-preserved : goal.loop-x-preserved
loop-x-preserved bound c =
    let (so_far, indexed, long) = c.loop-x.invariant in
    let at = goal.at.loop-x-preserved bound c in
    let rows = rows_of bound at.At-loop-x in
    let pair = next bound at.After-target-k in
    let here = letter bound at.After-target-k in
    elim c.match-known.branch [
      | in-Some w ↦
          let there = settles-made {most = 0} pair.tidy so_far.settled (known-settles pair so_far.settled _ (sym w.in-Some.ensures)) in
          rw (w.t-is, w.index-is, w.seen-is, w.targets-is) (one_more rows so_far here c.target-n.ensures c.target-k.ensures there, indexed, long)
      | in-None+in_ok-targets-in-None w ↦
          rw (w.t-is, w.index-is, w.seen-is, w.targets-is) (
            one_more rows so_far here c.target-n.ensures c.target-k.ensures w.in_ok-targets-in-None.ensures.combines,
            w.new_pair.ensures.indexed,
            w.new_pair.auto.seen ∙ long,
          )
    ]

pub settle_pair-requires : goal.settle_pair-requires
settle_pair-requires bound c =
    (all-ready (rows_of bound (goal.at.settle_pair-requires bound c).At-loop-x) c.loop-x.invariant.0 (omega arith), c.loop-x.invariant.1)

pub returns-clause-combines : goal.returns-clause-combines
returns-clause-combines bound c =
    all_made (rows_of bound (goal.at.returns-clause-combines bound c).At-loop-x) c.loop-x.invariant.0 (omega arith) c.settle_pair.ensures.combines
