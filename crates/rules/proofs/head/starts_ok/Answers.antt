-- `starts_ok` meets its promise: the chain is the test of every start. Assumes nothing.
use Rattle.std.proofs.Common.{rules, tests}
use Rattle.rows.specs.Table.{start}
use Rattle.rows.specs.Rules.{start_ok}
use Rattle.rules.proofs.Ranges.{every-mission}
use Rattle.rules.proofs.head.starts_ok.Goals as goal

pub returns : goal.returns
returns c =
    let t = c.args.t.now in
    every-mission _ _ _ (λ m. start_ok t (start t m)) c.all.ensures.ran (λ x b q k. search (rules, tests))
