-- `release` meets its promise. What is owed at row n is there, so it can be taken off. Where more is left, nothing else changes. Where nothing is left, the
-- loop's invariant: of the arcs of row n those of the letters before the one that the arcs go on from are taken off, whatever else is owed. The
-- measure of the recursion is the height: a target is lower. Assumes nothing.
use Rattle.rows.specs.Table.{height}
use Rattle.rows.specs.Arcs.{ArcsOf}
use Rattle.reaching.proofs.Leading.{Paying}
use Rattle.reaching.proofs.leads.+release.Given as goal

abbrev pub invariant-loop-s : goal.invariant-loop-s
invariant-loop-s l = ArcsOf l.t l.n l.s-iterator × Paying l.t l.n l.initial.leads l.leads l.s-iterator.from

abbrev pub decreases-release : goal.decreases-release
decreases-release l = height l.t.now l.n
