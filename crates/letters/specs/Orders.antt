-- The order of the words as std's `Ordering` says it. Assumes nothing.
use Prim.Native.Nat.{Ordering as Order}
use Rattle.std.specs.declared.cmp.Ordering.{Ordering}
use Rattle.std.specs.declared.cmp.Ordering.TheVariants.{Less, Equal, Greater}

abbrev pub order_is : Order → Ordering
order_is Order.lt = Less
order_is Order.eq = Equal
order_is Order.gt = Greater
