use native.Mathlib.Numerals.{add-one}
use borrow.Author.Rules.{rules}
use Rattle.sets.specs.Below.{greatest}
use Rattle.growing.proofs.heights.height_over.Goals as goal

pub loop-n-init : goal.loop-n-init
unfolding greatest
loop-n-init c = search rules

pub loop-n-preserved : goal.loop-n-preserved
unfolding greatest
loop-n-preserved c = rw (add-one, c.max-top.ensures, c.above.ensures, c.loop-n.invariant)
