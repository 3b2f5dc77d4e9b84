use Prim.Native.Nat.{ℕ, ◌+◌}
use native.Mathlib.Numerals.{add-one}
use native.Mathlib.Omega.{arith}
use lib.ListN.{replicate, length-replicate}
use Rattle.rows.specs.Table.{most_rows}
use Rattle.rows.proofs.Zeros.{zero-cell}
use Rattle.chains.specs.Orders.{levels}
use Rattle.chains.proofs.Chains.{chained-none, chained-link}
use Rattle.chains.proofs.Levels.{level-small}
use Rattle.chains.proofs.orders.order_rows.Goals as goal

pub loop-r-init : goal.loop-r-init
loop-r-init c =
    let n = levels + most_rows in
    rw c.requires.1 (chained-none levels _ (replicate n 0) (omega (arith, length-replicate {A = ℕ} n 0)) (λ i h. zero-cell n i))

pub loop-r-preserved : goal.loop-r-preserved
loop-r-preserved c =
    let l = c.loop-r in
    rw (add-one, c.link.ensures, c.level.ensures) (chained-link l.invariant (omega (arith, c.requires.0.most)) (level-small c.requires.0 l.r))
