-- `pair` meets its promise: a pair of which the row is known is settled, and changes nothing; the rows of any other are in use. Assumes nothing.
use mathlib.Core.Path.{sym}
use Rattle.pairing.proofs.Pairing.{settles-made, known-settles}
use Rattle.pairing.proofs.pairs.pair.Goals as goal

pub returns-in-Some-clause-combines : goal.returns-in-Some-clause-combines
returns-in-Some-clause-combines c =
    let (rows, settled, indexed) = c.requires in
    settles-made rows.tidy settled (known-settles rows settled _ (sym c.in-Some.ensures))
