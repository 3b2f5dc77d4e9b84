-- `step_to` meets its promise. The loop's invariant: it stands at a letter with an arc, the set has the arcs from there on, the words of lower
-- letters are passed, and `here` is the number of words behind this one. The measure is the letters that are left. Assumes nothing.
use Prim.Native.Nat.{◌-◌}
use mathlib.Core.Path.{◌≡◌}
use lib.ListN.{length}
use Rattle.letters.specs.Letters.{letters}
use Rattle.rows.specs.Table.{target}
use Rattle.rows.specs.Words.{words}
use Rattle.listing.proofs.Steps.{At}
use Rattle.listing.proofs.word.step_to.Given as goal

abbrev pub invariant-loop-here : goal.invariant-loop-here
invariant-loop-here l = At l.t l.r l.n l.x l.left l.set × (l.here ≡ length (words l.t (target l.t l.r l.x)))

abbrev pub decreases-loop-here : goal.decreases-loop-here
decreases-loop-here l = letters - l.x
