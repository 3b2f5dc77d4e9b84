-- `rule3` meets its promise. The loop's invariant: the rows below `r` pass, the array counts their arcs, and the index has their keys. Assumes nothing.
use Prim.Native.Nat.{◌≤◌, max}
use mathlib.Core.Path.{◌≡◌}
use mathlib.Core.Bool.{true}
use Rattle.letters.specs.Below.{all_below}
use Rattle.rows.specs.Rules.{if_used, arcs_ok}
use Rattle.index.specs.Index.{Keyed}
use Rattle.index.specs.Arcs.{arcs_below, Adds}
use Rattle.rules.proofs.arcs.rule3.Given as goal

abbrev pub invariant-loop-r : goal.invariant-loop-r
invariant-loop-r l =
    (l.r ≤ max l.r-end 1) × (all_below l.r (λ s. if_used l.t s (arcs_ok l.t s)) ≡ true) × Adds (λ s. arcs_below l.t l.r s) l.initial.arcs l.arcs × Keyed l.t l.r l.index
