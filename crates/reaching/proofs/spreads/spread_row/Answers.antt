-- `spread_row` meets its promise: a row that is not marked is passed by, and the targets of a marked row are marked. Assumes nothing.
use native.Mathlib.Omega.{arith}
use borrow.Author.Tests.{lt-ltb}
use lib.ListN.{get_or}
use Rattle.reaching.proofs.Spreading.{row-spread}
use Rattle.reaching.proofs.spreads.spread_row.Goals as goal

pub returns : goal.returns
returns c =
    row-spread c.requires.0 c.requires.2 c.requires.1 (lt-ltb 0 (get_or c.args.keep.now c.args.r 0) (omega arith)) c.mark_targets.ensures
