-- `path` meets its promise. At the empty tail the row's copy gets the mark; before that, the row's copy points at the recursion's answer for
-- the old target. The measure is what is left of the name. Assumes nothing.
use lib.ListN.{length}
use Rattle.naming.proofs.paths.+path.Given as goal

abbrev pub decreases-path : goal.decreases-path
decreases-path l = length l.name.now
