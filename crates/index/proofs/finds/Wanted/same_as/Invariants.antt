-- `same_as` meets its promise. The loop's invariant: `same` says whether the row has the wanted mark, and the wanted targets at the letters below `x`. Assumes nothing.
use mathlib.Core.Path.{◌≡◌}
use mathlib.Core.Bool.{◌&&◌}
use lib.Dec.{eqb}
use lib.ListN.{get_or}
use Rattle.letters.specs.Below.{all_below}
use Rattle.rows.specs.Table.{mark, target}
use Rattle.index.proofs.finds.Wanted.same_as.Given as goal

abbrev pub invariant-loop-x : goal.invariant-loop-x
invariant-loop-x l = l.same ≡ (eqb (mark l.t l.r) l.self.mark && all_below l.x (λ y. eqb (target l.t l.r y) (get_or l.self.targets.now y 0)))
