-- `combine_rows` meets its promise: at first no pair is kept, so every one that is kept is settled. Either table of pairs has a lane for every
-- row of the book. Assumes nothing.
use Rattle.pairing.proofs.Pairing.{none-settled}
use Rattle.pairing.proofs.pairs.combine_rows.Goals as goal

pub pair-requires : goal.pair-requires
pair-requires c =
    let (rows, indexed) = c.requires in
    (rows, none-settled _ _ _ (rw c.row_count.ensures at c.if-row_count-le-FEW_ROWS.true), indexed)

pub pair-requires-2 : goal.pair-requires-2
pair-requires-2 c =
    let (rows, indexed) = c.requires in
    (rows, none-settled _ _ _ rows.tidy.most, indexed)
