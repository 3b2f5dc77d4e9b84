-- Whose turn it is, by the places and the order of the next names; and what is known of the places where it is someone's turn. Assumes nothing.
use Prim.Native.Nat.{ℕ, ◌≤◌, ◌<◌, Ordering as Order}
use mathlib.Core.Path.{◌≡◌, refl}
use mathlib.Core.Bool.{Bool, true, false}
use mathlib.Core.List.{List}
use borrow.Author.Tests.{lt-ltb, le-ltb, ltb-true, ltb-false}
use lib.Dec.{ltb}
use lib.ListN.{length}
use Rattle.std.specs.declared.cmp.Ordering.{Ordering}
use Rattle.std.specs.declared.cmp.Ordering.TheVariants.{Less, Equal, Greater}
use Rattle.letters.specs.Words.{word_of, order}
use Rattle.letters.specs.Lists.{name_at}
use Rattle.letters.specs.Orders.{order_is}
use Rattle.merging.specs.declared.places.Places.{Places}
use Rattle.merging.specs.declared.places.Turn.{Turn}
use Rattle.merging.specs.declared.places.Turn.TheVariants.{First, Second, Both, Neither}
use Rattle.merging.specs.Merging.{smaller, whose, turn_of}

abbrev pub order_at : List ℕ → List ℕ → Places → Order
order_at f s at = order (word_of (name_at f at.first)) (word_of (name_at s at.second))

module _ (f s : List ℕ) (at : Places) where
  pub turn-neither : length f ≤ at.first → length s ≤ at.second → turn_of f s at ≡ Neither
  unfolding turn_of
  turn-neither h k = rw (le-ltb at.first (length f) h, le-ltb at.second (length s) k)

  pub turn-second : length f ≤ at.first → at.second < length s → turn_of f s at ≡ Second
  unfolding turn_of
  turn-second h k = rw (le-ltb at.first (length f) h, lt-ltb at.second (length s) k)

  pub turn-first : at.first < length f → length s ≤ at.second → turn_of f s at ≡ First
  unfolding turn_of
  turn-first h k = rw (lt-ltb at.first (length f) h, le-ltb at.second (length s) k)

  pub turn-order : at.first < length f → at.second < length s → turn_of f s at ≡ smaller (order_at f s at)
  unfolding turn_of
  turn-order h k = rw (lt-ltb at.first (length f) h, lt-ltb at.second (length s) k)

-- what is known of the places where it is so
abbrev pub Left : Turn → List ℕ → List ℕ → Places → Type 0
Left First f s at = (at.first < length f) × (at.second < length s → order_at f s at ≡ Order.lt)
Left Both f s at = (at.first < length f) × (at.second < length s) × (order_at f s at ≡ Order.eq)
Left Second f s at = (at.second < length s) × (at.first < length f → order_at f s at ≡ Order.gt)
Left Neither f s at = (length f ≤ at.first) × (length s ≤ at.second)

left-of : (f s : List ℕ) (at : Places) (a b : Bool) (o : Order) → ltb at.first (length f) ≡ a → ltb at.second (length s) ≡ b
    → order_at f s at ≡ o → Left (whose a b o) f s at
left-of f s at false false o h k e = (ltb-false _ _ h, ltb-false _ _ k)
left-of f s at false true o h k e = (ltb-true _ _ k, λ l. cc (lt-ltb at.first (length f) l))
left-of f s at true false o h k e = (ltb-true _ _ h, λ l. cc (lt-ltb at.second (length s) l))
left-of f s at true true Order.lt h k e = (ltb-true _ _ h, λ l. e)
left-of f s at true true Order.eq h k e = (ltb-true _ _ h, ltb-true _ _ k, e)
left-of f s at true true Order.gt h k e = (ltb-true _ _ k, λ l. e)

pub left : (f s : List ℕ) (at : Places) → Left (turn_of f s at) f s at
unfolding turn_of
left f s at = left-of f s at _ _ _ refl refl refl

pub left_by : (f s : List ℕ) (at : Places) (t : Turn) → turn_of f s at ≡ t → Left t f s at
left_by f s at t e = rw e at (left f s at)

-- the order's cases as the code answers them
abbrev pub answer : Ordering → Turn
answer Less = First
answer Equal = Both
answer Greater = Second

answer-is : (o : Order) → answer (order_is o) ≡ smaller o
answer-is Order.lt = refl
answer-is Order.eq = refl
answer-is Order.gt = refl

pub turn-answer : (f s : List ℕ) (at : Places) (r : Ordering) (a b : List ℕ) → r ≡ order_is (order (word_of a) (word_of b))
    → a ≡ name_at f at.first → b ≡ name_at s at.second → at.first < length f → at.second < length s → answer r ≡ turn_of f s at
turn-answer f s at r a b e p q h k = rw (e, p, q, turn-order f s at h k) (answer-is (order_at f s at))
