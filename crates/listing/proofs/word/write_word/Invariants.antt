-- `write_word` meets its promise. The loop's invariant: the word is begun, and the rest of it is at the row. The measure is the row's height,
-- which falls to the target of a letter. Assumes nothing.
use Rattle.rows.specs.Table.{height}
use Rattle.listing.proofs.Spelling.{Begun}
use Rattle.listing.proofs.word.write_word.Given as goal

abbrev pub invariant-loop-s : goal.invariant-loop-s
invariant-loop-s l = Begun l.t l.counts l.r l.n l.initial.out l.out l.row l.left l.i

abbrev pub decreases-loop-s : goal.decreases-loop-s
decreases-loop-s l = height l.t l.row
