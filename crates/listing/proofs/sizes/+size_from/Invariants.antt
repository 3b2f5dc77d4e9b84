-- `size_from` meets its promise: from 0 there is no word, and a row that is counted has its number. The loop's invariant: the targets of the letters
-- before the one that the arcs go on from are counted, and the sum is of the row's words and their bytes. The measure of the recursion is what
-- the row asks of a height: a target asks for less. Assumes nothing.
use Rattle.rows.specs.Rules.{above}
use Rattle.rows.specs.Arcs.{ArcsOf}
use Rattle.counting.specs.Counts.{word_count}
use Rattle.counting.proofs.Filling.{SoFar}
use Rattle.listing.specs.Sizes.{byte_count}
use Rattle.listing.proofs.sizes.+size_from.Given as goal

abbrev pub invariant-loop-s : goal.invariant-loop-s
invariant-loop-s l =
    ArcsOf l.t l.n l.s-iterator
    × SoFar l.t (word_count l.t) (byte_count l.t) l.n l.initial.sizes l.sizes l.sum l.s-iterator.from

abbrev pub decreases-size_from : goal.decreases-size_from
decreases-size_from l = above l.t.now l.n
