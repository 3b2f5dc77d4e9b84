-- `build_lists` meets its promise: the names of both lists are one group, that of no letters; or there is no name. Assumes nothing.
use native.Mathlib.Omega.{arith}
use mathlib.Core.Path.{◌≡◌}
use Rattle.merging.specs.Merging.{next_bytes, fronts, Lists}
use Rattle.merging.proofs.Merging.{both-lists, next-bytes, next-over}
use Rattle.building.proofs.Building.{none-built}
use Rattle.building.proofs.groups.build_lists.Goals as goal
use Rattle.building.proofs.groups.build_lists.Goals.{After-next_part-name}

lists : (c : After-next_part-name) → let args = c.args in Lists args.lists.now.first.now args.lists.now.second.now fronts
lists c = both-lists _ _ c.requires.2 c.requires.3

bytes : (c : After-next_part-name) → let args = c.args in c.next_part-name.result.now ≡ next_bytes args.lists.now.first.now args.lists.now.second.now fronts
bytes c = next-bytes c.args.lists.now.first c.args.lists.now.second fronts c.next_part-name.result c.next_part-name.ensures

pub returns-then-name-eq0-clause-makes : goal.returns-then-name-eq0-clause-makes
returns-then-name-eq0-clause-makes c =
    let at = (goal.at.returns-then-name-eq0-clause-makes c).After-next_part-name in
    rw (next-over (lists at) (rw (bytes at) at c.if-name-eq0.true)).none (none-built _ c.requires.0)

pub build-requires : goal.build-requires
build-requires c =
    let at = (goal.at.build-requires c).After-next_part-name in
    (c.requires.0, c.requires.1, record { lists = lists at; next = bytes at; some = omega arith; deep = omega arith })
