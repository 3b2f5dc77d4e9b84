-- `rule5` meets its promise: the chain is the test of every row. Assumes nothing.
use Rattle.std.proofs.Common.{rules, tests}
use Rattle.rows.specs.Rules.{is_pointed, rule5}
use Rattle.rules.proofs.Ranges.{every-used}
use Rattle.rules.proofs.pointed.rule5.Goals as goal

pub returns : goal.returns
unfolding rule5
returns c =
    let t = c.args.t.now in
    every-used _ _ _ t (λ r. is_pointed t r) c.row_count.ensures c.all.ensures.ran (λ x b q k. search (rules, tests))
