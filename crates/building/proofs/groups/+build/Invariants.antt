-- `build` meets its promise. The loop's invariant: the groups before the places ahead are passed, and their rows are the targets of their letters;
-- and the index is that of the table, which every call that makes rows keeps up. The measure of the recursion is what a name may have of letters
-- behind the shared ones, that of the loop the names that are left. Assumes nothing.
use Prim.Native.Nat.{◌-◌}
use lib.ListN.{length}
use Rattle.letters.specs.Names.{longest}
use Rattle.index.specs.Index.{Indexed}
use Rattle.merging.specs.Merging.{both_from}
use Rattle.building.proofs.Building.{Passed}
use Rattle.building.proofs.groups.+build.Given as goal

abbrev pub invariant-loop-ahead : goal.invariant-loop-ahead
invariant-loop-ahead l =
    Passed l.initial.t l.t l.lists.first.now l.lists.second.now l.at l.name l.depth l.ahead l.targets × Indexed l.t l.index

abbrev pub decreases-loop-ahead : goal.decreases-loop-ahead
decreases-loop-ahead l = length (both_from l.lists.first.now l.lists.second.now l.ahead.places)

abbrev pub decreases-build : goal.decreases-build
decreases-build l = longest - l.depth
