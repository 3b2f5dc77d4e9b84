-- `sweep_rows` meets its promise. The loop's invariant: the rows from `r` on, whose turn is still to come, are as they were, and of the others
-- those that are marked. Assumes nothing.
use mathlib.Core.Path.{◌≡◌}
use Rattle.rows.specs.Reach.{only_rows}
use Rattle.settling.proofs.Sweeping.{stays}
use Rattle.settling.proofs.sweeps.sweep_rows.Given as goal

abbrev pub invariant-loop-r : goal.invariant-loop-r
invariant-loop-r l = l.t ≡ only_rows l.initial.t (λ s. stays l.keep l.r s)
