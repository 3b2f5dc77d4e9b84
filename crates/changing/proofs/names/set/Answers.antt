-- `set` meets its promise: its first tests refuse it, or leave a sound book with its index, a mission and a name. Assumes nothing.
use Rattle.std.proofs.lemmas.Result.{err_from_is_err_and}
use Rattle.changing.proofs.Outcomes.{set-refused}
use Rattle.changing.proofs.names.set.Goals as goal

pub returns-in_err-admit_indexed : goal.returns-in_err-admit_indexed
returns-in_err-admit_indexed c =
    let p = err_from_is_err_and c.from_residual.result c.from_residual.ensures.1 in
    let args = c.args in
    rw (p.1, p.2) (set-refused args.t.now args.on args.m args.name.now _ (rw (c.if_fine.ensures, c.is_name.ensures) at c.in_err-admit_indexed.ensures.number))
