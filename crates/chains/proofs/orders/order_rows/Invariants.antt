-- `order_rows` meets its promise. The loop's invariant: the rows before `r` are chained by their levels. Assumes nothing.
use Rattle.chains.specs.Chains.{Chained}
use Rattle.chains.specs.Orders.{level, levels}
use Rattle.chains.proofs.orders.order_rows.Given as goal

abbrev pub invariant-loop-r : goal.invariant-loop-r
invariant-loop-r l = Chained levels (λ s. level l.t s) l.r l.order
