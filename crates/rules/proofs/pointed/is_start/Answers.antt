-- `is_start` meets its promise: the chain asks whether some start is the row. Assumes nothing.
use Rattle.std.proofs.Common.{rules, tests, eqb}
use Rattle.rows.specs.Table.{start}
use Rattle.rules.proofs.Ranges.{some-mission}
use Rattle.rules.proofs.pointed.is_start.Goals as goal

pub returns : goal.returns
returns c =
    let args = c.args in
    some-mission _ _ _ (λ m. eqb (start args.t.now m) args.r) c.any.ensures.ran (λ x b q k. search (rules, tests))
