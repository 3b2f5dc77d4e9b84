-- `order_of` meets its promise. The loop's invariant: the order of the names is that of the bytes that are left of both. Assumes nothing.
use Prim.Native.Nat.{ℕ, ◌+◌, Ordering}
use mathlib.Core.Path.{◌≡◌}
use mathlib.Core.List.{List}
use lib.ListN.{length}
use Rattle.std.specs.Iterator.Adapters.{zip_first, zip_second}
use Rattle.std.specs.Slice.Iter.{iter_rest}
use Rattle.letters.specs.Words.{word_of, order}
use Rattle.letters.proofs.names.order_of.Given as goal

abbrev pub order_by : List ℕ → List ℕ → Ordering
order_by a b = order (word_of a) (word_of b)

-- u and v are left of a and b: as many letters of a are read as of b, and the rest has the order of both
pub record Left (a b u v : List ℕ) : Type 0 where
  pub read : length a + length v ≡ length b + length u
  pub order : order_by a b ≡ order_by u v

abbrev pub invariant-loop-p : goal.invariant-loop-p
invariant-loop-p l = Left l.a l.b (iter_rest (zip_first l.p-iterator)) (iter_rest (zip_second l.p-iterator))
