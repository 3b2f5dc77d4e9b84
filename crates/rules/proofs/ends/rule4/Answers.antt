-- `rule4` meets its promise: the chain is the test of every row. Assumes nothing.
use Rattle.std.proofs.Common.{rules, tests}
use Rattle.rows.specs.Rules.{end_ok, rule4}
use Rattle.rules.proofs.Ranges.{every-used}
use Rattle.rules.proofs.ends.rule4.Goals as goal

pub returns : goal.returns
unfolding rule4
returns c =
    let t = c.args.t.now in
    every-used _ _ _ t (λ r. end_ok t r) c.row_count.ensures c.all.ensures.ran (λ x b q k. search (rules, tests))
