-- `rule6` meets its promise: the chain is the test of every row. Assumes nothing.
use Rattle.std.proofs.Common.{not, rules, tests}
use Rattle.rows.specs.Rules.{has_twin, rule6}
use Rattle.rules.proofs.Ranges.{every-used}
use Rattle.rules.proofs.twins.rule6.Goals as goal

pub returns : goal.returns
unfolding rule6
returns c =
    let t = c.args.t.now in
    every-used _ _ _ t (λ r. not (has_twin t r)) c.row_count.ensures c.all.ensures.ran (λ x b q k. search (rules, tests))
