-- `enter_arcs` meets its promise. The loop's invariant: the arcs for the letters before the one that the arcs go on from are counted. A number of
-- arcs is at most that of all arcs of the table, so one more fits, and it stands behind the chains and the keys, so they stay. Assumes nothing.
use Rattle.rows.specs.Arcs.{ArcsOf}
use Rattle.index.specs.Index.{Entering}
use Rattle.index.proofs.enters.enter_arcs.Given as goal

abbrev pub invariant-loop-n : goal.invariant-loop-n
invariant-loop-n l = ArcsOf l.t l.r l.n-iterator × Entering l.t l.r l.n-iterator.from l.index
