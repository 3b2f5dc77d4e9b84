-- How many numbers below n pass a test. `those` lists them, each once, so a count is the length of a list. Two lists whose things, no two of
-- them the same, belong together one to one are equally long: pigeonholes both ways. And those that pass are counted off one by one: each
-- has its own number of others before it, and every number below the count is met. Assumes nothing.
use Prim.Native.Nat.{ℕ, zero, suc, ◌+◌, ◌<◌}
use native.Mathlib.Omega.{arith}
use native.Mathlib.Decide.{ℕ_discrete, dec_lt}
use mathlib.Core.Path.{◌≡◌, refl}
use mathlib.Core.Bool.{Bool, true, false, not, cond}
use mathlib.Core.Logic.{inl, inr}
use mathlib.Core.List.{List, [], ◌∷◌, ◌++◌}
use lib.ListN.{length, length-append}
use Rattle.letters.specs.LetterSet.{flag, count_of}
use Rattle.sets.specs.Below.{over, those}
use Rattle.sets.specs.Automata.{Once}
use Rattle.sets.proofs.Membership.{In, here, there, nil-in, cons-in, append-in, not_listed, Apart}
use Rattle.sets.proofs.Below.{over-in, in-over}
use Rattle.sets.proofs.Pigeons.{pigeons}

cond-in : (b : Bool) (j : ℕ) {i : ℕ} → In i (cond b (j ∷ []) []) → (i ≡ j) × (b ≡ true)
cond-in true j m = elim (cons-in m) [ inl e ↦ (e, refl) | inr k ↦ absurd (nil-in k) ]
cond-in false j m = absurd (nil-in m)

append-apart : {A : Type 0} (l k : List A) → Apart l → Apart k → ((a : A) → In a l → In a k → ⊥) → Apart (l ++ k)
append-apart [] k p q differ = q
append-apart (a ∷ l) k p q differ = (
  λ i. elim (append-in l i) [ inl j ↦ p.0 j | inr j ↦ differ a (here refl) j ],
  append-apart l k p.1 q (λ b i j. differ b (there i) j),
)

module _ (test : ℕ → Bool) where
  pub length-those : (n : ℕ) → length (those n test) ≡ count_of n test
  unfolding over count_of
  length-those zero = refl
  length-those (suc n) = rw (length-append, length-those n) (go (test n))
    where
      go : (b : Bool) → count_of n test + length (cond b (n ∷ []) []) ≡ flag b + count_of n test
      go true = omega arith
      go false = omega arith

  pub in-those : (n i : ℕ) → i < n → test i ≡ true → In i (those n test)
  in-those n i h e = in-over _ n i h (rw e (here refl))

  pub those-in : (n : ℕ) {i : ℕ} → In i (those n test) → (i < n) × (test i ≡ true)
  those-in n m = let (j, h, g) = over-in _ n m in let (d, e) = cond-in (test j) j g in rw d (h, e)

  pub those-apart : (n : ℕ) → Apart (those n test)
  unfolding over
  those-apart zero = tt
  those-apart (suc n) = append-apart (those n test) _ (those-apart n) (go (test n)) differ
    where
      go : (b : Bool) → Apart (cond b (n ∷ []) [])
      go true = (nil-in, tt)
      go false = tt

      differ : (a : ℕ) → In a (those n test) → In a (cond (test n) (n ∷ []) []) → ⊥
      differ a i j = omega (arith, (those-in n i).0, (cond-in (test n) n j).0)

  -- those that pass, counted off: how many of them stand before each
  pub count_less : (n i : ℕ) → i < n → test i ≡ true → count_of i test < count_of n test
  unfolding count_of
  count_less zero i h e = absurd (omega arith)
  count_less (suc n) i h e =
      elim (ℕ_discrete i n) [ yes d ↦ rw (d, rw d at e) (omega arith) | no d ↦ omega (arith, count_less n i (omega arith) e) ]

  pub count-apart : (i j : ℕ) → test i ≡ true → test j ≡ true → count_of i test ≡ count_of j test → i ≡ j
  count-apart i j d e same =
      elim (dec_lt i j) [
        | yes h ↦ absurd (omega (arith, count_less j i h d))
        | no g ↦ elim (dec_lt j i) [ yes h ↦ absurd (omega (arith, count_less i j h e)) | no h ↦ omega arith ]
      ]

  pub count-met : (n p : ℕ) → p < count_of n test → (i : ℕ) × (i < n) × (test i ≡ true) × (count_of i test ≡ p)
  unfolding count_of
  count-met zero p h = absurd (omega arith)
  count-met (suc n) p h =
      elim (dec_lt p (count_of n test)) [
        | yes g ↦ let (i, below, e, same) = count-met n p g in (i, omega arith, e, same)
        | no g ↦ let (e, same) = go (test n) refl h g in (n, omega arith, e, same)
      ]
    where
      go : (b : Bool) → test n ≡ b → p < flag b + count_of n test → ¬ (p < count_of n test) → (test n ≡ true) × (count_of n test ≡ p)
      go true e h g = (e, omega arith)
      go false e h g = absurd (omega arith)

  pub count-rest : (n : ℕ) → count_of n test + count_of n (λ i. not (test i)) ≡ n
  unfolding count_of
  count-rest zero = refl
  count-rest (suc n) = go (test n) (count-rest n)
    where
      go : (b : Bool) → count_of n test + count_of n (λ i. not (test i)) ≡ n
          → flag b + count_of n test + (flag (not b) + count_of n (λ i. not (test i))) ≡ suc n
      go true rest = omega arith
      go false rest = omega arith

pub apart-once : (ns : List ℕ) → Apart ns → Once ns
apart-once [] h = tt
apart-once (n ∷ ns) h = (not_listed n ns h.0, apart-once ns h.1)

module _ {A B : Type 0} (Has : A → B → Type 0) (one : (a b : A) (p : B) → Has a p → Has b p → a ≡ b)
    (other : (a : A) (p q : B) → Has a p → Has a q → p ≡ q) where
  pub equally-many : (l : List A) (k : List B) → Apart l → Apart k → ((a : A) → In a l → (p : B) × In p k × Has a p)
      → ((p : B) → In p k → (a : A) × In a l × Has a p) → length l ≡ length k
  equally-many l k apart differ to from =
      omega (arith, pigeons Has one l k apart to, pigeons (λ p a. Has a p) (λ p q a. other a p q) k l differ from)
