-- `length_ok` meets its promise: each branch has settled one of the three tests. Assumes nothing.
use mathlib.Core.Bool.{and-false}
use native.Mathlib.Omega.{arith}
use borrow.Author.Tests.{eq-eqb, ne_eqb, le-leb, lt-leb}
use Prim.Native.Nat.{◌%◌}
use lib.ListN.{length}
use Rattle.rows.specs.Table.{width, least_rows, row_count, length_ok}
use Rattle.rows.proofs.table.length_ok.Goals as goal

pub returns-then-t-ne0 : goal.returns-then-t-ne0
unfolding length_ok
returns-then-t-ne0 c = rw (ne_eqb (length c.args.t.now % width) 0 (λ e. omega arith))

pub returns-then-k-lt-LEAST_ROWS : goal.returns-then-k-lt-LEAST_ROWS
unfolding length_ok
returns-then-k-lt-LEAST_ROWS c = rw (lt-leb least_rows (row_count c.args.t.now) (omega arith), and-false)

pub returns : goal.returns
unfolding length_ok
returns c =
    let t = c.args.t.now in
    rw (eq-eqb (length t % width) 0 (omega arith), le-leb least_rows (row_count t) (omega arith), c.row_count-k.ensures)
