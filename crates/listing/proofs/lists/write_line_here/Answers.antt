-- `write_line_here` meets its promise: the branch settles whether a name may end at the row, and then the letters are copied and the line's end is
-- written behind them. Assumes nothing.
use native.Mathlib.Omega.{arith}
use mathlib.Core.Path.{sym, ◌∙◌}
use lib.ListN.{length-append}
use Rattle.letters.specs.Letters.{line_end}
use Rattle.printing.proofs.Buffers.{overlaid-wrote, wrote-byte}
use Rattle.listing.proofs.lists.write_line_here.Goals as goal

pub returns : goal.returns
returns c =
    let args = c.args in
    let here = sym c.ends.ensures ∙ c.if-not-ends.false in
    let word = args.word.now in
    let copied = overlaid-wrote word args.out.now (rw c.bytes-depth.ensures, rw (c.bytes-depth.ensures, c.letters-letters.ensures) at c.copy_front.ensures) in
    let all = wrote-byte line_end copied (omega (arith, simp length-append at (rw here at c.requires))) in
    rw here (record { long = all.long; buffer = all.buffer })
