-- `put_answer` meets its promise: the line is written, and each of the numbers and the line's end behind what was written before. A number has
-- at most twenty digits, so there is room. Assumes nothing.
use Prim.Native.Nat.{◌+◌, ◌<◌}
use native.Mathlib.Omega.{arith}
use mathlib.Core.Path.{refl, ◌∙◌}
use borrow.Author.Rules.{rules}
use lib.ListN.{length}
use lib.Seq.{take-length}
use Rattle.letters.specs.Letters.{line_end}
use Rattle.printing.specs.Printed.{field}
use Rattle.printing.proofs.Buffers.{overlaid-wrote, wrote-byte, wrote-part, length-lent}
use Rattle.printing.proofs.Decimal.{field-short}
use Rattle.printing.proofs.answers.put_answer.Goals as goal
use Rattle.printing.proofs.answers.put_answer.Goals.{After-put_field-at, After-put_field-at-2, Start}

-- there is room for both numbers and the line's end
fields_fit : (c : Start) → let s = c.args in length s.line.now + length (field s.number) + length (field s.value) < length s.out.now
fields_fit c =
    let s = c.args in
    omega (arith, c.requires, field-short s.number (omega (arith, c.ranges.number)), field-short s.value (omega (arith, c.ranges.value)))

pub put_field-at-requires : goal.put_field-at-requires
put_field-at-requires c =
    let room = fields_fit (goal.at.put_field-at-requires c).Start in
    rw length-lent (omega arith)

-- so there is once the number is written
value-fits : (c : After-put_field-at) → let s = c.args in
    length s.line.now + c.put_field-at.result + length (field s.value) < length s.out.now
value-fits c = omega (arith, c.put_field-at.ensures.long, fields_fit (goal.at.After-put_field-at c).Start)

pub put_field-at-requires-2 : goal.put_field-at-requires-2
put_field-at-requires-2 c =
    let room = value-fits (goal.at.put_field-at-requires-2 c).After-put_field-at in
    rw length-lent (omega arith)

-- and once the value is
end_fits : (c : After-put_field-at-2) → let s = c.args in
    length s.line.now + c.put_field-at.result + c.put_field-at-2.result < length s.out.now
end_fits c = omega (arith, c.put_field-at-2.ensures.long, value-fits (goal.at.After-put_field-at-2 c).After-put_field-at)

pub bounds-out-at : goal.bounds-out-at
bounds-out-at c = let room = end_fits (goal.at.bounds-out-at c).After-put_field-at-2 in search rules

pub returns : goal.returns
returns c =
    let s = c.args in
    let line = overlaid-wrote s.line.now s.out.now (refl, c.copy_front.ensures ∙ rw (take-length s.line.now)) in
    let number = wrote-part line (overlaid-wrote (field s.number) _ (c.put_field-at.ensures.long, c.put_field-at.ensures.buffer)) in
    let value = wrote-part number (overlaid-wrote (field s.value) _ (c.put_field-at-2.ensures.long, c.put_field-at-2.ensures.buffer)) in
    let all = wrote-byte line_end value (end_fits (goal.at.returns c).After-put_field-at-2) in
    (record { long = all.long; buffer = all.buffer })
