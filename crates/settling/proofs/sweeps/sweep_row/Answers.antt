-- `sweep_row` meets its promise: a marked row stays with all others, and a row that is not marked is freed. Assumes nothing.
use native.Mathlib.Omega.{arith}
use lib.ListN.{get_or}
use borrow.Author.Tests.{lt-ltb}
use Rattle.settling.proofs.Sweeping.{marked-stays}
use Rattle.settling.proofs.sweeps.sweep_row.Goals as goal

pub returns-then-keep-r-ne0 : goal.returns-then-keep-r-ne0
returns-then-keep-r-ne0 c =
    marked-stays c.args.t.now c.args.keep.now c.args.r (lt-ltb 0 (get_or c.args.keep.now c.args.r 0) (omega arith))
