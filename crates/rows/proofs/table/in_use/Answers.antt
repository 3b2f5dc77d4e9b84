-- `in_use` meets its promise: a number that is no row is not in use, and of a row the mark decides. Assumes nothing.
use mathlib.Core.Path.{◌≡◌, sym, ◌∙◌}
use mathlib.Core.Bool.{true}
use Rattle.rows.specs.Table.{is_row}
use Rattle.rows.proofs.Facts.{row_inside}
use Rattle.rows.proofs.table.in_use.Goals as goal
use Rattle.rows.proofs.table.in_use.Goals.{Else-not-is_row}

row : (c : Else-not-is_row) → is_row c.args.t.now c.args.n ≡ true
row c = sym c.is_row.ensures ∙ c.if-not-is_row.false

pub returns-then-not-is_row : goal.returns-then-not-is_row
returns-then-not-is_row c = rw (sym c.is_row.ensures, c.if-not-is_row.true)

pub mark-requires : goal.mark-requires
mark-requires c = (row_inside c.args.t.now c.args.n (row c)).1

pub returns : goal.returns
returns c = rw (row (goal.at.returns c).Else-not-is_row, c.mark.ensures)
