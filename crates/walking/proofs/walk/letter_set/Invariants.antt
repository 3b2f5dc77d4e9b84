-- `letter_set` meets its promise. The loop's invariant: `set` has the letters below `x` that have an arc. Assumes nothing.
use Prim.Native.Nat.{◌≤◌}
use mathlib.Core.Path.{◌≡◌}
use Rattle.letters.specs.Letters.{letters}
use Rattle.letters.specs.LetterSet.{sum_of}
use Rattle.rows.specs.Walk.{has_arc}
use Rattle.walking.proofs.walk.letter_set.Given as goal

abbrev pub invariant-loop-x : goal.invariant-loop-x
invariant-loop-x l = (l.x ≤ letters) × (l.set ≡ sum_of l.x (λ y. has_arc l.t l.n y))
