-- `rank` meets its promise: its first tests refuse it, or leave a sound book, a mission and a name. Assumes nothing.
use Prim.Native.Nat.{ℕ}
use native.Mathlib.Omega.{arith}
use mathlib.Core.Path.{◌≡◌, refl, ◌∙◌}
use mathlib.Core.List.{List, []}
use Rattle.std.proofs.lemmas.Grind.{common_steps}
use Rattle.std.proofs.lemmas.Result.{err_from_is_err_and}
use Rattle.letters.specs.Names.{is_name}
use Rattle.model.specs.Call.Call.{rank}
use Rattle.model.specs.Refusals.{given}
use Rattle.model.specs.Run.{run}
use Rattle.rows.specs.Table.{Table}
use Rattle.answers.specs.declared.cases.Refusal.{Refusal}
use Rattle.answers.specs.declared.cases.Refusal.TheVariants.{Name}
use Rattle.answers.specs.Replies.{refusal_number, refused_reply}
use Rattle.promises.specs.Books.{book_of}
use Rattle.promises.specs.Promises.{Promised}
use Rattle.promises.proofs.Meeting.{promises}
use Rattle.admitting.specs.Admissions.{if_fine, first_tests}
use Rattle.ranking.proofs.ranks.rank.Goals as goal

-- the first tests refuse it: apart from the code, since the search stops at its limits where it sees both
rank_refused : (t : Table) (m : ℕ) (name : List ℕ) (why : Refusal)
    → refusal_number why ≡ given (first_tests (book_of t) m (if_fine (is_name name) Name)) → Promised t t [] [] (rank m name) (refused_reply why)
unfolding run
rank_refused t m name why number = grind (arith, common_steps)

pub returns-in_err-admit : goal.returns-in_err-admit
returns-in_err-admit c =
    let p = err_from_is_err_and c.from_residual.result c.from_residual.ensures.1 in
    let found = c.if_fine.ensures ∙ rw c.is_name.ensures in
    rw (p.1, p.2) (rank_refused _ _ _ _ (rw found at c.in_err-admit.ensures))

pub returns : goal.returns
returns c = promises _ _ (rank _ _) _ refl refl c.rank_in_list.ensures
