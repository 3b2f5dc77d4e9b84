-- The laws of the order of words, on which sets of words stand: only equal words are the same, the order turns round with its words, and
-- what stands before is transitive; and what stands between two words that begin alike begins as they do. Each law is shown of two letters
-- first, by the clauses of `compare`; `then` carries it from the first letters and the rests to the words. Nothing here knows what a letter
-- is. Assumes nothing.
use Prim.Native.Nat.{ℕ, ◌<◌, compare, Ordering}
use mathlib.Core.Path.{◌≡◌, refl}
use mathlib.Core.Bool.{true, false, ◌&&◌, false≢true, and-eq-true_iff}
use mathlib.Core.List.{[], ◌∷◌, ◌++◌}
use lib.Dec.{compare_is_eq, eqb}
use borrow.Author.Tests.{eqb-true}
use Rattle.letters.specs.Words.{Word, then, order, is_before, before, same}
use Rattle.letters.proofs.Compare.{compare_same, compare-eq, compare-lt, compare-gt, flip, compare-flip, compare-trans}

-- a word and itself
pub order-cons : (x : ℕ) (u v : Word) → order (x ∷ u) (x ∷ v) ≡ order u v
unfolding order
order-cons x u v = rw compare_same

pub order-refl : (w : Word) → order w w ≡ Ordering.eq
unfolding order
order-refl [] = refl
order-refl (x ∷ w) = rw compare_same (order-refl w)

pub same_refl : (w : Word) → same w w ≡ true
same_refl w = rw order-refl

-- words that the order does not tell apart
then-eq : (o p : Ordering) → compare_is_eq (then o p) ≡ (compare_is_eq o && compare_is_eq p)
then-eq Ordering.lt p = refl
then-eq Ordering.eq p = refl
then-eq Ordering.gt p = refl

pub same-cons : (x y : ℕ) (u v : Word) → same (x ∷ u) (y ∷ v) ≡ (eqb x y && same u v)
unfolding order
same-cons x y u v = rw then-eq

pub same-eq : (u v : Word) → same u v ≡ true → u ≡ v
unfolding order
same-eq [] [] e = refl
same-eq [] (y ∷ v) e = cc
same-eq (x ∷ u) [] e = cc
same-eq (x ∷ u) (y ∷ v) e =
    let p = (and-eq-true_iff (eqb x y) (same u v)).0 (rw same-cons at e) in
    cc (eqb-true x y p.0, same-eq u v p.1)

pub order-eq : (u v : Word) → order u v ≡ Ordering.eq → u ≡ v
order-eq u v e = same-eq u v (rw e)

-- the order seen from the other side
then_flip : (o p : Ordering) → then (flip o) (flip p) ≡ flip (then o p)
then_flip Ordering.lt p = refl
then_flip Ordering.eq p = refl
then_flip Ordering.gt p = refl

order_flip : (u v : Word) → order v u ≡ flip (order u v)
unfolding order
order_flip [] [] = refl
order_flip [] (y ∷ v) = refl
order_flip (x ∷ u) [] = refl
order_flip (x ∷ u) (y ∷ v) = rw (compare-flip x y, order_flip u v, then_flip)

pub after-before : (u v : Word) → order u v ≡ Ordering.gt → before v u ≡ true
after-before u v e = rw (order_flip u v, e)

-- a word that stands before another
pub lower-before : (x y : ℕ) (u v : Word) → x < y → before (x ∷ u) (y ∷ v) ≡ true
unfolding order
lower-before x y u v h = rw (compare-lt x y h)

pub higher-not-before : (x y : ℕ) (u v : Word) → y < x → before (x ∷ u) (y ∷ v) ≡ false
unfolding order
higher-not-before x y u v h = rw (compare-gt x y h)

pub before-not-same : (u v : Word) → before u v ≡ true → same u v ≡ false
before-not-same u v = go (order u v)
  where
    go : (o : Ordering) → is_before o ≡ true → compare_is_eq o ≡ false
    go Ordering.lt h = refl
    go Ordering.eq h = cc
    go Ordering.gt h = refl

pub before-trans : (u v w : Word) → before u v ≡ true → before v w ≡ true → before u w ≡ true
unfolding order
before-trans u [] [] h k = cc
before-trans u (y ∷ v) [] h k = cc
before-trans [] v (z ∷ w) h k = refl
before-trans (x ∷ u) [] (z ∷ w) h k = cc
before-trans (x ∷ u) (y ∷ v) (z ∷ w) h k = go (before-trans u v w) (compare x y) (compare y z) refl refl
  where
    go : (before u v ≡ true → before v w ≡ true → before u w ≡ true)
        → (o p : Ordering) → compare x y ≡ o → compare y z ≡ p → before (x ∷ u) (z ∷ w) ≡ true
    go rests Ordering.lt Ordering.lt e f = rw (compare-trans x y z e f)
    go rests Ordering.lt Ordering.eq e f = cc (compare-eq y z f)
    go rests Ordering.lt Ordering.gt e f = cc
    go rests Ordering.eq Ordering.lt e f = cc (compare-eq x y e)
    go rests Ordering.eq Ordering.eq e f = cc (compare-eq x y e, rests (cc) (cc))
    go rests Ordering.eq Ordering.gt e f = cc
    go rests Ordering.gt p e f = cc

-- what stands between two words that begin alike begins as they do
pub between-begins : (u v w b : Word) → before (u ++ v) b ≡ true → before b (u ++ w) ≡ true → (rest : Word) × (b ≡ u ++ rest)
unfolding order
between-begins [] v w b h k = (b, refl)
between-begins (x ∷ u) v w [] h k = absurd (false≢true h)
between-begins (x ∷ u) v w (y ∷ b) h k = go (between-begins u v w b) (compare x y) refl
  where
    go : (before (u ++ v) b ≡ true → before b (u ++ w) ≡ true → (rest : Word) × (b ≡ u ++ rest))
        → (o : Ordering) → compare x y ≡ o → (rest : Word) × (y ∷ b ≡ x ∷ u ++ rest)
    go rests Ordering.lt e = absurd (false≢true (rw (compare-flip x y, e) at k))
    go rests Ordering.eq e =
        let (rest, d) = rests (rw e at h) (rw (compare-flip x y, e) at k) in
        (rest, cc (compare-eq x y e, d))
    go rests Ordering.gt e = absurd (false≢true (rw e at h))
