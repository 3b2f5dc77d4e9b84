-- `put_other` meets its promise: the mark is written, the number behind it and the line's end behind both. A number has at most twenty digits,
-- so there is room. Assumes nothing.
use Prim.Native.Nat.{◌+◌, ◌<◌}
use native.Mathlib.Nat.{add_comm}
use native.Mathlib.Omega.{arith}
use borrow.Author.Rules.{rules}
use lib.ListN.{length, length-take, length-drop, length-set}
use Rattle.letters.specs.Letters.{line_end}
use Rattle.printing.specs.Printed.{field}
use Rattle.printing.proofs.Buffers.{overlaid-wrote, wrote_none, wrote-byte, wrote-part}
use Rattle.printing.proofs.Decimal.{field-short}
use Rattle.printing.proofs.answers.put_other.Goals as goal

pub put_field-at-requires : goal.put_field-at-requires
put_field-at-requires c =
    let short = field-short c.args.n (omega arith) in
    simp (length-take, length-drop, length-set) (omega arith)

-- there is room for the line's end behind the mark and the number
room : (c : goal.After-slice_known-2-1) → c.put_field-at.result + 1 < length c.args.out.now
room c =
    omega (arith, c.requires, c.put_field-at.ensures.long, field-short c.args.n (omega (arith, c.ranges.n)))

pub bounds-out-at : goal.bounds-out-at
bounds-out-at c = let inside = room c in search rules

pub returns : goal.returns
returns c =
    let called = c.put_field-at in
    let mark = wrote-byte 0x21 (wrote_none c.args.out.now) (omega (arith, c.requires)) in
    let number = wrote-part mark (overlaid-wrote (field c.args.n) _ (called.ensures.long, called.ensures.buffer)) in
    let all = wrote-byte line_end (rw (add_comm 1 called.result) at number) (room c) in
    (record { long = all.long; buffer = all.buffer })
