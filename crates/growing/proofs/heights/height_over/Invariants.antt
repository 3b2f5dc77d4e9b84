-- `height_over` meets its promise. The loop's invariant: `top` is the greatest height that the targets so far ask for. Assumes nothing.
use mathlib.Core.Path.{◌≡◌}
use lib.ListN.{get_or}
use Rattle.sets.specs.Below.{greatest}
use Rattle.rows.specs.Rules.{above}
use Rattle.growing.proofs.heights.height_over.Given as goal

abbrev pub invariant-loop-n : goal.invariant-loop-n
invariant-loop-n l = l.top ≡ greatest l.n-index (λ x. above l.t (get_or l.targets x 0))
