-- `rule2` meets its promise: the chain is the test of every row. Assumes nothing.
use Rattle.std.proofs.Common.{rules, tests}
use Rattle.rows.specs.Rules.{mark_ok, rule2}
use Rattle.rules.proofs.Ranges.{every-row}
use Rattle.rules.proofs.marks.rule2.Goals as goal

pub returns : goal.returns
unfolding rule2
returns c =
    let t = c.args.t.now in
    every-row _ _ _ t (λ r. mark_ok t r) c.row_count.ensures c.all.ensures.ran (λ x b q k. search (rules, tests))
