-- What the comparison of two numbers says where their order is known, and what it tells of them; by the clauses of `compare`, which is stuck at
-- a variable. Assumes nothing.
use Prim.Native.Nat.{ℕ, zero, suc, ◌<◌, compare, Ordering}
use Prim.Native.Nat.compare
use mathlib.Core.Path.{◌≡◌, refl, ap, ◌∙◌}
use native.Mathlib.Nat.{not-suc-le-zero, le_of_suc-le-suc}
use native.Mathlib.Decide.{ℕ_discrete, dec_lt}
use native.Mathlib.Omega.{arith}
use borrow.Author.Tests.{eqb-true, lt-ltb, le-ltb, ne_eqb}
use Rattle.std.specs.Ordering.{nat_cmp}
use Rattle.letters.specs.Orders.{order_is}

pub compare_same : (x : ℕ) → compare x x ≡ Ordering.eq
compare_same zero = refl
compare_same (suc x) = rw compare.suc-suc (compare_same x)

pub compare-eq : (x y : ℕ) → compare x y ≡ Ordering.eq → x ≡ y
compare-eq x y e = eqb-true x y (rw e)

pub compare-lt : (x y : ℕ) → x < y → compare x y ≡ Ordering.lt
compare-lt x zero h = absurd (not-suc-le-zero h)
compare-lt zero (suc y) h = compare.zero-suc y
compare-lt (suc x) (suc y) h = rw compare.suc-suc (compare-lt x y (le_of_suc-le-suc h))

-- the order seen from the other side
abbrev pub flip : Ordering → Ordering
flip Ordering.lt = Ordering.gt
flip Ordering.eq = Ordering.eq
flip Ordering.gt = Ordering.lt

pub compare-flip : (x y : ℕ) → compare y x ≡ flip (compare x y)
compare-flip zero zero = refl
compare-flip zero (suc y) = simp (compare.suc-zero, compare.zero-suc)
compare-flip (suc x) zero = simp (compare.suc-zero, compare.zero-suc)
compare-flip (suc x) (suc y) = simp compare.suc-suc (compare-flip x y)

pub compare-gt : (x y : ℕ) → y < x → compare x y ≡ Ordering.gt
compare-gt x y h = compare-flip y x ∙ ap flip (compare-lt y x h)

pub compare-trans : (x y z : ℕ) → compare x y ≡ Ordering.lt → compare y z ≡ Ordering.lt → compare x z ≡ Ordering.lt
compare-trans x zero zero h k = cc
compare-trans x (suc y) zero h k = cc (compare.suc-zero y)
compare-trans zero y (suc z) h k = rw compare.zero-suc
compare-trans (suc x) zero (suc z) h k = cc (compare.suc-zero x)
compare-trans (suc x) (suc y) (suc z) h k =
    rw compare.suc-suc (compare-trans x y z (rw compare.suc-suc at h) (rw compare.suc-suc at k))

-- what std's comparison of two numbers answers
pub cmp-is : (x y : ℕ) → nat_cmp x y ≡ order_is (compare x y)
cmp-is x y = elim (dec_lt x y) [
  | yes l ↦ rw (lt-ltb x y l, compare-lt x y l)
  | no n ↦ elim (ℕ_discrete x y) [
    | yes e ↦ rw (e, le-ltb y y (omega arith), compare_same y)
    | no d ↦ rw (le-ltb x y (omega arith), ne_eqb x y d, compare-gt x y (omega arith))
  ]
]
