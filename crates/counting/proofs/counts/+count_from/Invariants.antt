-- `count_from` meets its promise: from 0 there is no word, and a row that is counted has its number. The loop's invariant: the targets of the letters
-- before the one that the arcs go on from are counted, and the sum is of their words. The measure of the recursion is what the row asks of a
-- height: a target asks for less. Assumes nothing.
use Rattle.letters.specs.LetterSet.{flag}
use Rattle.rows.specs.Table.{ends}
use Rattle.rows.specs.Rules.{above}
use Rattle.rows.specs.Arcs.{ArcsOf}
use Rattle.counting.specs.Counts.{word_count}
use Rattle.counting.proofs.Filling.{SoFar}
use Rattle.counting.proofs.counts.+count_from.Given as goal

abbrev pub invariant-loop-s : goal.invariant-loop-s
invariant-loop-s l =
    ArcsOf l.t l.n l.s-iterator
    × SoFar l.t (λ r. flag (ends l.t r)) (word_count l.t) l.n l.initial.counts l.counts l.sum l.s-iterator.from

abbrev pub decreases-count_from : goal.decreases-count_from
decreases-count_from l = above l.t.now l.n
