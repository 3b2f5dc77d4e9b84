-- `name_count` meets its promise. The loop's invariant: from the places on both are lists, and the names counted and those to come are all; no more
-- names are counted than bytes are passed. The measure is the bytes that are left. Assumes nothing.
use Prim.Native.Nat.{◌+◌, ◌≤◌}
use mathlib.Core.Path.{◌≡◌}
use lib.ListN.{length}
use Rattle.letters.specs.Lists.{names_of}
use Rattle.sets.specs.Sets.{both}
use Rattle.merging.specs.Merging.{Lists, both_from, bytes_left}
use Rattle.merging.proofs.lists.TwoLists.name_count.Given as goal

abbrev pub invariant-loop-at : goal.invariant-loop-at
invariant-loop-at l =
    let f = l.self.first.now in
    let s = l.self.second.now in
    Lists f s l.at × (l.n + length (both_from f s l.at) ≡ length (both (names_of f) (names_of s))) × (l.n ≤ l.at.first + l.at.second)

abbrev pub decreases-loop-at : goal.decreases-loop-at
decreases-loop-at l = bytes_left l.self.first.now l.self.second.now l.at
