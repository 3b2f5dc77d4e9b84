-- `enter` meets its promise. Once the arcs are counted, the key and the bucket are those of the row, so `gap` gives the place where it comes into the
-- chain, and the stores make the array that the laws speak of. Assumes nothing.
use Prim.Native.Nat.{◌+◌, ◌<◌}
use mathlib.Core.Path.{◌≡◌, sym, ◌∙◌}
use native.Mathlib.Omega.{arith}
use lib.ListN.{length, length-set}
use Rattle.rows.specs.Table.{most_rows}
use Rattle.index.specs.Buckets.{row_key, bucket, buckets}
use Rattle.index.specs.Index.{index_length, Gaps, entered}
use Rattle.index.proofs.Buckets.{bucket-used}
use Rattle.index.proofs.Seeking.{row-long, row-keyed}
use Rattle.index.proofs.Entering.{stored-entered, gap-place, entered-indexed}
use Rattle.index.proofs.enters.enter.Goals as goal
use Rattle.index.proofs.enters.enter.Goals.{After-gap-place, After-key_of-key}

pub key_of-key-requires : goal.key_of-key-requires
key_of-key-requires c = rw c.targets.ensures (row-long c.args.t.now c.args.r c.enter_arcs.ensures.used)

-- the key is that of the row
keyed : (c : After-key_of-key) → c.key_of-key.result ≡ row_key c.args.t.now c.args.r
keyed c =
    c.key_of-key.ensures ∙ rw (c.mark.ensures, c.targets.ensures) (sym (row-keyed c.args.t.now c.args.r c.enter_arcs.ensures.used))

-- the place is a gap of the row's bucket
gap-there : (c : After-gap-place) → Gaps c.enter_arcs.new.index (bucket c.args.t.now c.args.r) c.args.r c.gap-place.result
gap-there c =
    let row : c.bucket_of.result ≡ bucket c.args.t.now c.args.r =
    c.bucket_of.ensures ∙ rw (keyed (goal.at.After-gap-place c).After-key_of-key) (sym (bucket-used c.enter_arcs.ensures.used)) in
    rw row at c.gap-place.ensures

-- the place is in the array, before the keys
inside : (c : After-gap-place) →
    let place = c.gap-place.result in
    (0 < place) × (place < buckets + most_rows) × (length c.enter_arcs.new.index ≡ index_length)
inside c =
    let (some, low) = gap-place c.enter_arcs.ensures (gap-there c) in
    (some, low, c.enter_arcs.ensures.long)

pub offset_bounds-index-place : goal.offset_bounds-index-place
offset_bounds-index-place c = omega (arith, inside (goal.at.offset_bounds-index-place c).After-gap-place)

pub bounds-index-place : goal.bounds-index-place
bounds-index-place c = simp length-set (omega (arith, inside (goal.at.bounds-index-place c).After-gap-place))

pub offset_bounds-index-place-2 : goal.offset_bounds-index-place-2
offset_bounds-index-place-2 c = omega (arith, inside (goal.at.offset_bounds-index-place-2 c).After-gap-place)

pub bounds-index-place-2 : goal.bounds-index-place-2
bounds-index-place-2 c = simp length-set (omega (arith, inside (goal.at.bounds-index-place-2 c).After-gap-place))

pub returns : goal.returns
returns c =
    let args = c.args in
    let there = gap-there (goal.at.returns c).After-gap-place in
    let some = (gap-place c.enter_arcs.ensures there).0 in
    let e : c.keep_key.new.index ≡ entered c.enter_arcs.new.index c.gap-place.result args.r (row_key args.t.now args.r) =
    c.keep_key.ensures ∙ stored-entered c.enter_arcs.new.index _ _ _ some (keyed (goal.at.returns c).After-key_of-key) in
    rw e (entered-indexed c.enter_arcs.ensures there)
