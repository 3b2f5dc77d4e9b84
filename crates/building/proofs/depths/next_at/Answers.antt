-- `next_at` meets its promise: at the same places it is the same name. Assumes nothing.
use Rattle.merging.proofs.Merging.{next-bytes}
use Rattle.building.proofs.depths.next_at.Goals as goal

pub returns : goal.returns
returns c =
    let args = c.args in
    next-bytes args.lists.now.first args.lists.now.second args.places c.next_part.result c.next_part.ensures
