-- `sweep` meets its promise: the array is zeros, so it marks no row; then it marks the rows that are reached, and the others are freed. Assumes
-- nothing.
use mathlib.Core.Path.{◌∙◌}
use Rattle.reaching.proofs.Marking.{zeros-mark-none}
use Rattle.settling.proofs.Sweeping.{marks-only}
use Rattle.settling.proofs.sweeps.sweep.Goals as goal

pub mark_reached-requires : goal.mark_reached-requires
mark_reached-requires c = let tidy = c.requires in (tidy, zeros-mark-none tidy.most)

pub returns : goal.returns
returns c =
    c.sweep_rows.ensures ∙ marks-only c.args.t.now _ _ c.requires.whole c.mark_reached.ensures
