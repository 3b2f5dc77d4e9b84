-- `list_size` meets its promise: the words from the rows are counted from the mission's start, and by them the bytes, in an array of zeros, where no
-- row is counted. Assumes nothing.
use Rattle.counting.proofs.Filling.{zeros-numbered}
use Rattle.listing.proofs.sizes.list_size.Goals as goal

pub size_from-requires : goal.size_from-requires
size_from-requires c =
    let (counts, counted) = c.count_names-r.ensures.counted in
    rw c.start-r.ensures (counts, counted, zeros-numbered _ counts.tidy counts.tidy.most)
