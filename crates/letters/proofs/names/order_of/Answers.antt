use Prim.Native.Nat.{ℕ, ◌+◌, compare, Ordering}
use mathlib.Core.Path.{◌≡◌, refl, sym, ap, ◌∙◌}
use mathlib.Core.Logic.{◌⊎◌, inl, inr}
use mathlib.Core.List.{List, [], ◌∷◌}
use native.Mathlib.Omega.{arith}
use lib.ListN.{length}
use Rattle.std.specs.Iterator.Adapters.{zip_first, zip_second}
use Rattle.std.specs.Slice.Iter.{iter_rest}
use Rattle.letters.specs.Letters.{letter}
use Rattle.letters.specs.Words.{then, order}
use Rattle.letters.proofs.Compare.{compare_same, compare-eq, compare-lt, compare-gt, cmp-is}
use Rattle.letters.proofs.Ordering.{order-cons}
use Rattle.letters.proofs.names.order_of.Invariants.{order_by, Left}
use Rattle.letters.proofs.names.order_of.Goals as goal

-- both have a letter: it is the same, and what follows decides
same-letter : (p q : ℕ) (a b : List ℕ) → letter p ≡ letter q → order_by (p ∷ a) (q ∷ b) ≡ order_by a b
same-letter p q a b e = rw e (order-cons _ _ _)

-- or they are two, and decide
two-letters : (p q : ℕ) (a b : List ℕ) → (letter p ≡ letter q → ⊥) → order_by (p ∷ a) (q ∷ b) ≡ compare (letter p) (letter q)
unfolding order
two-letters p q a b d = go (compare (letter p) (letter q)) (λ e. d (compare-eq _ _ e))
  where
    go : (o : Ordering) → (o ≡ Ordering.eq → ⊥) → then o (order_by a b) ≡ o
    go Ordering.lt n = refl
    go Ordering.eq n = absurd (n refl)
    go Ordering.gt n = refl

-- one is over, after as many letters of both: their lengths decide
one_over : (m n : ℕ) (a b : List ℕ) → (length a ≡ 0) ⊎ (length b ≡ 0) → m + length b ≡ n + length a → order_by a b ≡ compare m n
unfolding order
one_over m n [] [] over e = let d : m ≡ n = omega arith in rw d (sym (compare_same n))
one_over m n [] (y ∷ b) over e = sym (compare-lt m n (omega arith))
one_over m n (x ∷ a) [] over e = sym (compare-gt m n (omega arith))
one_over m n (x ∷ a) (y ∷ b) (inl h) e = absurd (omega arith)
one_over m n (x ∷ a) (y ∷ b) (inr h) e = absurd (omega arith)

-- the next letters are the same: what is behind them is left
same-left : {p q : ℕ} {a b u v s t : List ℕ} → Left a b u v → u ≡ p ∷ s → v ≡ q ∷ t → letter p ≡ letter q → Left a b s t
same-left left first second e =
    record { read = omega (arith, left.read, ap length first, ap length second); order = left.order ∙ rw (first, second) (same-letter _ _ _ _ e) }

pub returns-then-x-y : goal.returns-then-x-y
returns-then-x-y c =
    let steps = c.in-Some.ensures.steps in
    let differ : letter c.in-Some.p.now ≡ letter c.in-Some.q.now → ⊥ = λ e. c.if-x-y.true (c.letter_of-x.ensures ∙ (e ∙ sym c.letter_of-y.ensures)) in
    rw (c.cmp.ensures, c.letter_of-x.ensures, c.letter_of-y.ensures, c.loop-p.invariant.order, steps.0, steps.1, two-letters) (cmp-is _ _)

pub loop-p-preserved-else-x-y : goal.loop-p-preserved-else-x-y
loop-p-preserved-else-x-y c =
    let steps = c.in-Some.ensures.steps in
    same-left c.loop-p.invariant steps.0 steps.1
    (sym c.letter_of-x.ensures ∙ (c.if-x-y.false ∙ c.letter_of-y.ensures))

pub loop-p-preserved : goal.loop-p-preserved
loop-p-preserved c =
    let steps = c.in-Some.ensures.steps in
    same-left c.loop-p.invariant steps.0 steps.1 (ap letter c.if-p-q.false)

pub returns : goal.returns
returns c =
    let a = iter_rest (zip_first c.loop-p.p-iterator) in
    let b = iter_rest (zip_second c.loop-p.p-iterator) in
    let over : (length a ≡ 0) ⊎ (length b ≡ 0) = elim c.in-None.ensures.steps [ inl h ↦ inl h.1.0 | inr h ↦ inr h.1.0 ] in
    rw (c.cmp-2.ensures, c.loop-p.invariant.order, one_over _ _ a b over c.loop-p.invariant.read) (cmp-is _ _)
