-- Pigeonholes. Where each of several things, no two of them the same, has a place in a list, and no two things have the same place, the
-- things are at most as many as the places. The first thing's place is taken out of the list; the other things have theirs in what is left.
-- Assumes nothing.
use Prim.Native.Nat.{suc, ◌≤◌}
use native.Mathlib.Omega.{arith}
use mathlib.Core.Path.{◌≡◌, refl, ap, sym, ◌∙◌}
use mathlib.Core.Logic.{inl, inr}
use mathlib.Core.List.{List, [], ◌∷◌}
use lib.ListN.{length}
use Rattle.sets.proofs.Membership.{In, here, there, in-cast, cons-in, Apart}

module _ {A : Type 0} where
  -- the list without what stands there
  abbrev less : {a : A} {l : List A} → In a l → List A
  less (here {xs = l} e) = l
  less (there {x = b} i) = b ∷ less i

  length-less : {a : A} {l : List A} (i : In a l) → length l ≡ suc (length (less i))
  length-less (here e) = refl
  length-less (there i) = ap suc (length-less i)

  in-less : {a b : A} {l : List A} (i : In a l) → In b l → (b ≡ a → ⊥) → In b (less i)
  in-less (here e) j other = elim (cons-in j) [ inl d ↦ absurd (other (d ∙ sym e)) | inr g ↦ g ]
  in-less (there i) j other = elim (cons-in j) [ inl d ↦ here d | inr g ↦ there (in-less i g other) ]

module _ {A B : Type 0} (Has : A → B → Type 0) (one : (a b : A) (p : B) → Has a p → Has b p → a ≡ b) where
  pub pigeons : (l : List A) (places : List B) → Apart l → ((a : A) → In a l → (p : B) × In p places × Has a p)
      → length l ≤ length places
  pigeons [] places apart place = omega arith
  pigeons (a ∷ l) places apart place =
      let (p, i, h) = place a (here refl) in
      let differ : (b : A) (q : B) → In b l → Has b q → q ≡ p → ⊥ = λ b q m g e. apart.0 (in-cast (one a b p h (rw e at g)) m) in
      let rest = pigeons l (less i) apart.1 (λ b m. let (q, j, g) = place b (there m) in (q, in-less i j (differ b q m g), g)) in
      omega (arith, rest, length-less i)
