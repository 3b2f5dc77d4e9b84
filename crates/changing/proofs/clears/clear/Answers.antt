-- `clear` meets its promise: its first tests refuse it, or leave a sound book with its index, and a mission. Assumes nothing.
use mathlib.Core.Path.{refl}
use lib.ListN.{drop}
use Rattle.std.specs.Prelude.{Ok}
use Rattle.model.specs.Call.Call.{clear}
use Rattle.model.specs.Run.{rule, run}
use Rattle.promises.specs.Books.{book_of}
use Rattle.promises.proofs.Meeting.{promises-change}
use Rattle.admitting.specs.Admissions.{first_tests}
use Rattle.admitting.proofs.Admitting.{refused-first}
use Rattle.ending.proofs.Changes.{refused-changes}
use Rattle.std.proofs.lemmas.Result.{err_from_is_err_and}
use Rattle.changing.proofs.clears.clear.Goals as goal

pub returns-in_err-admit_indexed : goal.returns-in_err-admit_indexed
unfolding run
returns-in_err-admit_indexed c =
    let p = err_from_is_err_and c.from_residual.result c.from_residual.ensures.1 in
    let args = c.args in
    let b = book_of args.t.now in
    rw (p.1, p.2) (
    promises-change _ _ (clear args.m) _ refl (λ p. p) refl
    (refused-changes args.t.now (clear args.m) _
    (refused-first b (rule b (clear args.m)) (first_tests b args.m (Ok tt)) (drop 3 (rule b (clear args.m)).refusals) refl _ c.in_err-admit_indexed.ensures.number))
    )

pub returns : goal.returns
returns c = promises-change _ _ (clear _) _ refl (λ p. p) refl c.clear_list.ensures
