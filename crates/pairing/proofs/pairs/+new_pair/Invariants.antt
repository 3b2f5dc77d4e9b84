-- `new_pair` meets its promise. The loop's invariant: the pairs of the targets are settled for the letters below `x`, every pair that is kept is
-- settled, the index is that of the table, and the table of pairs is as long as it was. A pair of targets of which the row is known is settled, and
-- changes nothing; the rows of any other are in use. The measure of the recursion is the greater of what the two rows ask of a height: the targets
-- of a row in use ask for less. Assumes nothing.
use Prim.Native.Nat.{max}
use mathlib.Core.Path.{◌≡◌}
use lib.ListN.{length}
use Rattle.rows.specs.Rules.{above}
use Rattle.index.specs.Index.{Indexed}
use Rattle.pairing.proofs.Pairing.{SoFar}
use Rattle.pairing.proofs.pairs.+new_pair.Given as goal

abbrev pub invariant-loop-x : goal.invariant-loop-x
invariant-loop-x l =
    SoFar l.op l.initial.t l.p l.q l.t l.seen l.targets l.x × Indexed l.t l.index × (length l.seen ≡ length l.initial.seen)

abbrev pub decreases-new_pair : goal.decreases-new_pair
decreases-new_pair l = max (above l.t.now l.p) (above l.t.now l.q)
