-- `combine` meets its promise: its first tests refuse it, or leave a sound book with its index, missions and an operation. Assumes nothing.
use mathlib.Core.Path.{◌≡◌, refl, sym, ◌∙◌}
use native.Mathlib.Omega.{arith}
use lib.ListN.{drop}
use Rattle.model.specs.Call.Call.{combine}
use Rattle.model.specs.Refusals.{is_operation}
use Rattle.model.specs.Run.{rule, run}
use Rattle.answers.specs.declared.cases.Refusal.TheVariants.{Operation}
use Rattle.promises.specs.Books.{book_of}
use Rattle.promises.proofs.Meeting.{promises-change}
use Rattle.admitting.specs.Admissions.{if_fine, first_tests}
use Rattle.admitting.proofs.Admitting.{fine-true, admitted, refused-first}
use Rattle.ending.proofs.Changes.{refused-changes}
use Rattle.std.proofs.lemmas.Result.{err_from_is_err_and}
use Rattle.filling.specs.Filling.{highest}
use Rattle.filling.proofs.Outcomes.{combine-begins}
use Rattle.filling.proofs.combines.combine.Goals as goal
use Rattle.filling.proofs.combines.combine.Goals.{After-if_fine-operation}

-- what was found of the operation
found : (c : After-if_fine-operation) → c.if_fine-operation.result ≡ if_fine (is_operation c.args.op) Operation
found c = c.if_fine-operation.ensures ∙ rw c.is_operation.ensures

pub combine_lists-requires : goal.combine_lists-requires
combine_lists-requires c =
    let fine = admitted c.args.t.now c.highest.result c.if_fine-operation.result c.in_ok-admit_indexed.ensures.number in (
      record {
        sound = fine.sound;
        missions = omega (arith, fine.mission, c.highest.ensures);
        operation = fine-true (is_operation c.args.op) Operation (sym (found (goal.at.combine_lists-requires c).After-if_fine-operation) ∙ fine.arguments);
      },
      c.in_ok-admit_indexed.ensures.indexed,
    )

pub returns : goal.returns
returns c = promises-change _ _ (combine _ _ _ _) _ refl (λ p. p) refl c.combine_lists.ensures

pub returns-in_err-admit_indexed : goal.returns-in_err-admit_indexed
unfolding run
returns-in_err-admit_indexed c =
    let args = c.args in
    let b = book_of args.t.now in
    let call = combine args.op args.a args.b args.c in
    let p = err_from_is_err_and c.from_residual.result c.from_residual.ensures.1 in
    rw (p.1, p.2) (
    promises-change _ _ call _ refl (λ p. p) refl
    (refused-changes args.t.now call _
    (refused-first b (rule b call) (first_tests b (highest args.a args.b args.c) (if_fine (is_operation args.op) Operation)) (drop 6 (rule b call).refusals)
    (combine-begins args.t.now args.op args.a args.b args.c) _
    (rw (c.highest.ensures, found (goal.at.returns-in_err-admit_indexed c).After-if_fine-operation) at c.in_err-admit_indexed.ensures.number)))
    )
