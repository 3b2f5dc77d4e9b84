-- `load_two` meets its promise: its first tests refuse it, or leave a sound book with its index, a mission and two lists. Assumes nothing.
use mathlib.Core.Path.{◌≡◌, refl, sym, ◌∙◌}
use mathlib.Core.Bool.{◌&&◌, and-eq-true_iff}
use lib.ListN.{drop}
use Rattle.letters.specs.Lists.{is_list}
use Rattle.model.specs.Call.Call.{load_two}
use Rattle.model.specs.Run.{rule, run}
use Rattle.answers.specs.declared.cases.Refusal.TheVariants.{List}
use Rattle.promises.specs.Books.{book_of}
use Rattle.promises.proofs.Meeting.{promises-change}
use Rattle.admitting.specs.Admissions.{if_fine, first_tests}
use Rattle.admitting.proofs.Admitting.{fine-true, first-begins, admitted, refused-first}
use Rattle.ending.proofs.Changes.{refused-changes}
use Rattle.std.proofs.lemmas.Result.{err_from_is_err_and}
use Rattle.filling.proofs.loads.load_two.Goals as goal
use Rattle.filling.proofs.loads.load_two.Goals.{After-if_fine-listed}

-- what was found of the lists
found : (c : After-if_fine-listed) →
    let args = c.args in
    c.if_fine-listed.result ≡ if_fine (is_list args.first.now && is_list args.second.now) List
found c = c.if_fine-listed.ensures ∙ rw c.are_lists.ensures

pub load_lists-requires : goal.load_lists-requires
load_lists-requires c =
    let fine = admitted _ _ _ c.in_ok-admit_indexed.ensures.number in
    let (listed, also) = (and-eq-true_iff _ _).0 (fine-true _ List (sym (found (goal.at.load_lists-requires c).After-if_fine-listed) ∙ fine.arguments)) in (
      record { sound = fine.sound; mission = fine.mission; listed = listed; also = also },
      c.in_ok-admit_indexed.ensures.indexed,
    )

pub returns : goal.returns
returns c = promises-change _ _ (load_two _ _ _) _ refl (λ p. p) refl c.load_lists.ensures

pub returns-in_err-admit_indexed : goal.returns-in_err-admit_indexed
unfolding run
returns-in_err-admit_indexed c =
    let args = c.args in
    let b = book_of args.t.now in
    let call = load_two args.m args.first.now args.second.now in
    let fine = is_list args.first.now && is_list args.second.now in
    let more = drop 4 (rule b call).refusals in
    let p = err_from_is_err_and c.from_residual.result c.from_residual.ensures.1 in
    rw (p.1, p.2) (
    promises-change _ _ call _ refl (λ p. p) refl
    (refused-changes args.t.now call _
    (refused-first b (rule b call) (first_tests b args.m (if_fine fine List)) more (first-begins b args.m fine List more)
    _ (rw (found (goal.at.returns-in_err-admit_indexed c).After-if_fine-listed) at c.in_err-admit_indexed.ensures.number)))
    )
