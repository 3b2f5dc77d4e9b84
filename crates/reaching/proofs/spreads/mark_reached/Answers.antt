-- `mark_reached` meets its promise: the starts are marked, and then what is reached from them. Assumes nothing.
use Rattle.reaching.proofs.Spreading.{starts-marked, starts-spread}
use Rattle.reaching.proofs.spreads.mark_reached.Goals as goal

pub spread-requires : goal.spread-requires
spread-requires c =
    (c.requires.0, starts-marked c.requires.0 c.requires.1 c.mark_starts.ensures)

pub returns : goal.returns
returns c =
    starts-spread c.requires.0 c.requires.1 c.mark_starts.ensures c.spread.ensures
