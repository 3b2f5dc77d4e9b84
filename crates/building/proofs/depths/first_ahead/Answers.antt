-- `first_ahead` meets its promise: the first name goes on behind the group's letters, and begins with them; or it is these letters alone, and the
-- next name behind it is compared with them. Assumes nothing.
use native.Mathlib.Omega.{arith}
use mathlib.Core.Path.{◌∙◌}
use Rattle.letters.specs.Words.{word_of}
use Rattle.merging.proofs.Merging.{next-bytes}
use Rattle.merging.specs.Merging.{Lists}
use Rattle.building.proofs.Openings.{opening-all, next-deep}
use Rattle.building.proofs.Building.{first_taken, first-deep}
use Rattle.building.proofs.depths.first_ahead.Goals as goal

pub returns-then-depth-name-clause-deep : goal.returns-then-depth-name-clause-deep
returns-then-depth-name-clause-deep c = omega (arith, first-deep c.requires)

pub returns-clause-deep : goal.returns-clause-deep
returns-clause-deep c =
    let args = c.args in
    let bytes = next-bytes args.lists.now.first args.lists.now.second c.places_after-places.result c.next_part.result c.next_part.ensures in
    let lists : Lists args.lists.now.first.now args.lists.now.second.now c.places_after-places.result =
    rw c.places_after-places.ensures (first_taken c.requires).lists in
    rw (opening-all args.name.now args.depth (omega arith)) (c.depth_of-deep.ensures ∙ rw bytes (next-deep (word_of args.name.now) lists))
