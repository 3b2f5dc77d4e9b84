-- `settle_pair` meets its promise: the row is made for the words of the pair, and kept where there is one. The index is that of `make`.
-- Assumes nothing.
use Rattle.std.proofs.lemmas.Result.{err_from_is_err_and}
use Rattle.pairing.proofs.Pairing.{settled-kept, ready-pair, row_made}
use Rattle.pairing.proofs.pairs.settle_pair.Goals as goal

pub returns-in_err-r-clause-combines : goal.returns-in_err-r-clause-combines
returns-in_err-r-clause-combines c =
    let ready = c.requires.0 in
    let full = rw (c.pair_mark-mark.ensures, ready.over) at c.in_err-r.ensures.makes in
    let error = err_from_is_err_and c.from_residual.result c.from_residual.ensures.1 in
    rw error.1 (record { makes = full; settled = settled-kept ready.tidy full.grows.grown ready.settled })

pub returns-clause-combines : goal.returns-clause-combines
returns-clause-combines c =
    let ready = c.requires.0 in
    let made = rw (c.pair_mark-mark.ensures, ready.over) at c.in_ok-r.ensures.makes in
    rw c.keep.ensures (row_made (ready-pair ready) ready.settled made)
