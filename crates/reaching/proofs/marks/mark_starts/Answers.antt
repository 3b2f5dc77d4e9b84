use native.Mathlib.Omega.{arith}
use Rattle.rows.proofs.Facts.{named-inside}
use Rattle.rows.proofs.Books.{start-named}
use Rattle.reaching.proofs.Marking.{given-none, given-more}
use Rattle.reaching.proofs.marks.mark_starts.Goals as goal

pub loop-m-init : goal.loop-m-init
loop-m-init c = given-none _ _

pub loop-m-preserved : goal.loop-m-preserved
loop-m-preserved c =
    let t = c.args.t.now in
    let inside = named-inside t c.requires.0 _ (start-named t c.requires.0 c.loop-m.m (omega arith)) in
    given-more _ _ _ c.loop-m.invariant c.start.ensures (omega (arith, inside))
