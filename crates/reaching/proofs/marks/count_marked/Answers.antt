-- `count_marked` meets its promise: the chain counts the marked ones of the rows from 1 on. Assumes nothing.
use Rattle.std.proofs.Common.{rules, tests, refl, ◌∙◌}
use Rattle.std.proofs.lemmas.Iterator.{YieldsList-from_range}
use Rattle.std.proofs.lemmas.Iterator.Consumers.{YieldsList-from_filter, count_from_yields_List}
use Rattle.reaching.specs.Marks.{marked}
use Rattle.reaching.proofs.Marking.{counted_rows}
use Rattle.reaching.proofs.marks.count_marked.Goals as goal

pub returns : goal.returns
returns c =
    let keep = c.args.keep.now in
    let rows = YieldsList-from_range 1 c.row_count.result _ c.filter.ensures.source refl in
    count_from_yields_List c.filter.result _ c.count.ensures.ran
    (YieldsList-from_filter _ (λ r. marked keep r) rows c.filter.ensures.closure (λ x b q k. search (rules, tests)))
    ∙ counted_rows c.args.t.now keep c.row_count.result _ c.row_count.ensures refl
    ∙ rw c.row_count.ensures
