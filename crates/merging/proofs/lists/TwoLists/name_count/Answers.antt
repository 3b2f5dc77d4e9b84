use Prim.Native.Nat.{◌+◌, ◌≤◌}
use mathlib.Core.Path.{ap}
use native.Mathlib.Omega.{arith}
use lib.ListN.{length}
use Rattle.letters.specs.Lists.{longest_list}
use Rattle.letters.proofs.Lines.{list-parts}
use Rattle.sets.specs.Sets.{Words}
use Rattle.merging.specs.Merging.{next_bytes}
use Rattle.merging.proofs.Merging.{both-lists, Taken, left-taken, none_left}
use Rattle.merging.proofs.lists.TwoLists.name_count.Goals as goal
use Rattle.merging.proofs.lists.TwoLists.name_count.Goals.{After-places_after-at, At-loop-at}

-- both have at most 65,535 bytes
short : (c : At-loop-at) →
    let args = c.args in
    length args.self.now.first.now + length args.self.now.second.now ≤ longest_list + longest_list
short c =
    let (one, two) = c.requires in
    omega (arith, (list-parts _ one).0, (list-parts _ two).0)

-- one name more
more : (c : After-places_after-at) →
    let args = c.args in
    let at = c.loop-at.at in
    Taken args.self.now.first.now args.self.now.second.now at (next_bytes args.self.now.first.now args.self.now.second.now at) c.places_after-at.result
more c =
    let lists = c.loop-at.invariant.0 in
    rw c.places_after-at.ensures (left-taken lists (omega (arith, c.loop-at-test.true, lists.first.inside, lists.second.inside)))

pub loop-at-init : goal.loop-at-init
loop-at-init c = let (one, two) = c.requires in (both-lists _ _ one two, omega arith, omega arith)

pub loop-at-smaller : goal.loop-at-smaller
loop-at-smaller c = (more c).less

pub loop-at-preserved : goal.loop-at-preserved
loop-at-preserved c =
    let (lists, all, few) = c.loop-at.invariant in
    let one = more c in (
      one.lists,
      omega (arith, all, ap (λ (l : Words). length l) one.words),
      omega (arith, few, one.less, lists.first.inside, lists.second.inside, one.lists.first.inside, one.lists.second.inside),
    )

pub returns : goal.returns
returns c =
    let (lists, all, few) = c.loop-at.invariant in
    omega (arith, all, ap (λ (l : Words). length l) (none_left lists (omega (arith, c.loop-at-test.false, lists.first.inside, lists.second.inside))))
