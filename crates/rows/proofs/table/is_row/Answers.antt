-- `is_row` meets its promise: the branch has settled whether the number is 0. Assumes nothing.
use native.Mathlib.Omega.{arith}
use borrow.Author.Tests.{lt-ltb}
use Rattle.rows.proofs.table.is_row.Goals as goal

pub returns-then-n-eq0 : goal.returns-then-n-eq0
returns-then-n-eq0 c = rw c.if-n-eq0.true

pub returns : goal.returns
returns c = rw (lt-ltb 0 c.args.n (omega arith), c.row_count.ensures)
