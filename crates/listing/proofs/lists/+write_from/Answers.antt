use Prim.Native.Nat.{ℕ, ◌+◌, ◌≤◌}
use native.Mathlib.Omega.{arith}
use mathlib.Core.Path.{◌≡◌, refl}
use lib.ListN.{length, length-append}
use Rattle.rows.specs.Table.{ends}
use Rattle.rows.specs.Tidy.{Arc}
use Rattle.rows.specs.Arcs.{Goes}
use Rattle.rows.proofs.Facts.{target_below}
use Rattle.rows.proofs.Stepping.{goes, gone}
use Rattle.printing.proofs.Buffers.{Wrote, overlaid-wrote, lent, length-lent}
use Rattle.listing.specs.Lists.{line_here}
use Rattle.listing.proofs.Behind.{arc_lines}
use Rattle.listing.proofs.Writing.{none_yet, one_more, here-fits, next_fits, same_size, all-written, popped}
use Rattle.listing.proofs.lists.+write_from.Goals as goal
use Rattle.listing.proofs.lists.+write_from.Goals.{After-write_from-bytes, At-loop-x, In-Some}

pub write_line_here-bytes-requires : goal.write_line_here-bytes-requires
write_line_here-bytes-requires bound c =
    let (tidy, used, deep, room) = c.requires in
    let args = c.args in
    omega (arith, here-fits args.t.now tidy args.r used args.word.now)

pub loop-x-init : goal.loop-x-init
loop-x-init bound c =
    let arcs = c.arcs_of-x-items.ensures in
    rw c.into_iter-x-iterator.ensures.into_iter_gives (record { table = arcs.table; row = arcs.row }, none_yet arcs.from, refl)

-- the row's own line is written before the loop, and in the loop the buffer is as long as it was
first : (bound : ℕ) → (l : At-loop-x bound) →
    let args = l.args in
    let called = l.write_line_here-bytes in
    Wrote called.result (line_here (ends args.t.now args.r) args.word.now) args.out.now called.new.out
first bound l = overlaid-wrote _ _ (l.write_line_here-bytes.ensures.long, l.write_line_here-bytes.ensures.buffer)

same : (bound : ℕ) → (l : At-loop-x bound) → length l.loop-x.out ≡ length l.args.out.now
same bound l =
    let (tidy, used, deep, room) = l.requires in
    same_size tidy used room (first bound l) l.loop-x.invariant.1 l.loop-x.x-iterator.to

one : (bound : ℕ) → (c : In-Some bound) → Goes c.args.t.now c.args.r c.loop-x.x-iterator c.next.new.self c.in-Some.x c.in-Some.s
one bound c = goes c.loop-x.invariant.0 c.in-Some.ensures.steps

-- there is an arc, and the lines from its target fit
arc : (bound : ℕ) → (c : In-Some bound) → Arc c.args.t.now c.args.r c.in-Some.x
arc bound c =
    let a = one bound c in
    record { used = c.requires.1; letter = a.inside; there = a.next.stops a.inside }

fits : (bound : ℕ) → (c : In-Some bound) → let args = c.args in
    c.loop-x.bytes + length (arc_lines args.t.now args.r args.word.now c.in-Some.x) ≤ length c.loop-x.out
fits bound c =
    let (tidy, used, deep, room) = c.requires in
    let l = (goal.at.In-Some bound c).At-loop-x in
    let a = one bound c in
    omega (arith, next_fits tidy used room (first bound l) c.loop-x.invariant.1 a.next a.inside, same bound l)

pub write_from-bytes-requires : goal.write_from-bytes-requires
write_from-bytes-requires bound c =
    let args = c.args in
    let (tidy, used, deep, room) = c.requires in
    let place = (goal.at.write_from-bytes-requires bound c).In-Some in
    let a = one bound place in
    rw (a.to, c.push.ensures, c.loop-x.invariant.2) (
      omega (arith, target_below args.t.now tidy args.r c.in-Some.x used a.inside, c.decreases),
      (
        tidy,
        tidy.targets _ _ (arc bound place),
        simp length-append (omega (arith, tidy.lower _ _ (arc bound place))),
        omega (arith, fits bound place, length-lent c.loop-x.bytes c.loop-x.out),
      ),
    )

pub loop-x-preserved : goal.loop-x-preserved
loop-x-preserved bound c =
    let args = c.args in
    let place = (goal.at.loop-x-preserved bound c).In-Some in
    let a = one bound place in
    let called = c.write_from-bytes.ensures in
    let wrote : Wrote c.write_from-bytes.result (arc_lines args.t.now args.r args.word.now c.in-Some.x) (lent c.loop-x.bytes c.loop-x.out)
    c.write_from-bytes.new.out =
    overlaid-wrote _ _ (rw (a.to, c.push.ensures, c.loop-x.invariant.2) at called.long, rw (a.to, c.push.ensures, c.loop-x.invariant.2) at called.buffer) in
    (a.still, one_more c.loop-x.invariant.1 a wrote, rw (c.pop.ensures, called.word, c.push.ensures, c.loop-x.invariant.2) (popped _ _))

pub returns : goal.returns
returns bound c =
    let (tidy, used, deep, room) = c.requires in
    let (arcs, so_far, still) = c.loop-x.invariant in
    let all = all-written tidy used room (first bound (goal.at.returns bound c).At-loop-x) so_far (gone arcs c.in-None.ensures.steps) in
    record { word = still; long = all.long; buffer = all.buffer }
