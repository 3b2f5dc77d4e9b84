-- `free_row` meets its promise: the row's part of the table is filled with zeros. Assumes nothing.
use mathlib.Core.Path.{◌≡◌}
use native.Mathlib.Omega.{arith}
use borrow.Author.Rules.{rules}
use lib.ListN.{replicate, length}
use Rattle.rows.specs.Table.{width}
use Rattle.rows.proofs.Facts.{row_inside}
use Rattle.settling.proofs.Sweeping.{freed}
use Rattle.settling.proofs.sweeps.free_row.Goals as goal

pub returns : goal.returns
returns c =
    let args = c.args in
    let (some, below) = row_inside args.t.now args.r c.requires in
    let long : length c.fill.new.self ≡ width = search rules in
    let zeros : c.fill.new.self ≡ replicate width 0 = search rules in
    freed args.t.now c.fill.new.self args.r _ some below (omega arith) zeros
