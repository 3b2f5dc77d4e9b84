-- Sums of numbers may be cut at every step: cutting forgets only what stands above the most, and so does the sum of cut numbers. Whoever counts
-- with cut numbers goes by this law. Assumes nothing.
use Prim.Native.Nat.{ℕ, zero, suc, min}
use mathlib.Core.Path.{◌≡◌, refl}
use native.Mathlib.Omega.{arith}
use Rattle.sets.specs.Below.{total}

pub cut-total : (most n : ℕ) (given : ℕ → ℕ) → min (total n (λ i. min (given i) most)) most ≡ min (total n given) most
unfolding total
cut-total most zero given = refl
cut-total most (suc n) given = omega (arith, cut-total most n given)
