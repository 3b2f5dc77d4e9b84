-- The sets in `states` are the least that hold every list that has a word and, with a set, what is left of it after a letter if that has a
-- word. So what holds of the lists and goes over to what is left after a letter holds of all of them; and none is empty. The depth is
-- enough, because what is left after a letter has shorter words. Assumes nothing.
use Prim.Native.Nat.{ℕ, zero, suc, ◌<◌}
use native.Mathlib.Omega.{arith}
use mathlib.Core.Path.{◌≡◌, refl}
use mathlib.Core.Bool.{Bool, true, false, cond, false≢true}
use mathlib.Core.Logic.{inl, inr}
use mathlib.Core.List.{List, [], ◌∷◌}
use lib.Dec.{eqb}
use lib.ListN.{length, get_or}
use Rattle.letters.specs.Letters.{letters}
use Rattle.letters.specs.Words.{Word}
use Rattle.letters.proofs.Ordering.{same_refl}
use Rattle.sets.specs.Sets.{Words, Filled, member}
use Rattle.sets.specs.Residuals.{after, residuals, longest_word, all_residuals, states}
use Rattle.sets.proofs.Membership.{In, here, there, nil-in, cons-in, append-in, in_left, in_right, Apart}
use Rattle.sets.proofs.Below.{over-in, in-over}
use Rattle.sets.proofs.Distinct.{distinct-in, in-distinct, distinct_apart}

pub member-filled : (w : Word) (l : Words) → member w l ≡ true → Filled l
unfolding member
member-filled w [] m = false≢true m
member-filled w (v ∷ vs) m = tt

pub filled-member : (l : Words) → Filled l → (w : Word) × (member w l ≡ true)
unfolding member
filled-member [] f = absurd f
filled-member (w ∷ ws) f = (w, rw same_refl)

pub after_filled : (x : ℕ) (l : Words) → Filled (after x l) → Filled l
unfolding after
after_filled x [] f = f
after_filled x (v ∷ vs) f = tt

-- what holds of a set goes over to what is left of it after a letter
abbrev pub Carried : (Words → Type 0) → Type 0
Carried P = (x : ℕ) → x < letters → (k : Words) → P k → Filled (after x k) → P (after x k)

module _ (P : Words → Type 0) (step : Carried P) where
  residuals-all : (d : ℕ) (l : Words) → (Filled l → P l) → {k : Words} → In k (residuals d l) → P k
  unfolding residuals
  residuals-all zero l p i = absurd (nil-in i)
  residuals-all (suc d) [] p i = absurd (nil-in i)
  residuals-all (suc d) (w ∷ ws) p i =
      elim (cons-in i) [
        | inl e ↦ rw e (p tt)
        | inr j ↦ let (x, h, g) = over-in _ letters j in residuals-all d (after x (w ∷ ws)) (step x h (w ∷ ws) (p tt)) g
      ]

height-after : (x : ℕ) (l : Words) → Filled (after x l) → longest_word (after x l) < longest_word l
unfolding after longest_word
height-after x [] f = absurd f
height-after x ([] ∷ ws) f = omega (arith, height-after x ws f)
height-after x ((y ∷ w) ∷ ws) f = go (λ g. height-after x ws g) (eqb x y) f
  where
    longer : (k : Words) → (Filled k → longest_word k < longest_word ws) → longest_word (w ∷ k) < longest_word ((y ∷ w) ∷ ws)
    longer [] rest = omega arith
    longer (v ∷ vs) rest = omega (arith, rest tt)

    go : (Filled (after x ws) → longest_word (after x ws) < longest_word ws) → (t : Bool) → Filled (cond t (w ∷ after x ws) (after x ws))
        → longest_word (cond t (w ∷ after x ws) (after x ws)) < longest_word ((y ∷ w) ∷ ws)
    go rest true f = longer (after x ws) rest
    go rest false f = omega (arith, rest f)

-- the depth is enough for the set
abbrev Deep : ℕ → Words → Type 0
Deep d l = Filled l → longest_word l < d

in-residuals : (d : ℕ) (l : Words) → Deep d l → Filled l → In l (residuals d l)
unfolding residuals
in-residuals d [] deep f = absurd f
in-residuals zero (w ∷ ws) deep f = absurd (omega (arith, deep tt))
in-residuals (suc d) (w ∷ ws) deep f = here refl

after-in-residuals : (d : ℕ) (l : Words) → Deep d l → (x : ℕ) → x < letters → {k : Words} → In k (residuals d l) → Filled (after x k)
    → In (after x k) (residuals d l)
unfolding residuals
after-in-residuals zero l deep x h i f = absurd (nil-in i)
after-in-residuals (suc d) [] deep x h i f = absurd (nil-in i)
after-in-residuals (suc d) (w ∷ ws) deep x h i f =
    let left : ℕ → Words = λ y. after y (w ∷ ws) in
    let lower : (y : ℕ) → Deep d (left y) = λ y g. omega (arith, deep tt, height-after y (w ∷ ws) g) in
    elim (cons-in i) [
      | inl e ↦ rw e (there (in-over _ letters x h (in-residuals d (left x) (lower x) (rw e at f))))
      | inr j ↦
          let (y, below, g) = over-in _ letters j in
          there (in-over _ letters y below (after-in-residuals d (left y) (lower y) x h g f))
    ]

-- all that is left of a list: the depth is enough
abbrev parts : Words → List Words
parts l = residuals (suc (longest_word l)) l

all_in : (ls : List Words) {k : Words} → In k (all_residuals ls) → (m : ℕ) × (m < length ls) × In k (parts (get_or ls m []))
unfolding all_residuals
all_in [] i = absurd (nil-in i)
all_in (l ∷ ls) i =
    elim (append-in (parts l) i) [ inl j ↦ (0, omega arith, j) | inr j ↦ let (m, h, g) = all_in ls j in (suc m, omega arith, g) ]

in_all : (ls : List Words) (m : ℕ) → m < length ls → {k : Words} → In k (parts (get_or ls m [])) → In k (all_residuals ls)
unfolding all_residuals
in_all [] m h i = absurd (omega arith)
in_all (l ∷ ls) zero h i = in_left (all_residuals ls) i
in_all (l ∷ ls) (suc m) h i = in_right (parts l) (in_all ls m (omega arith) i)

module _ (ls : List Words) where
  in-states : (m : ℕ) → m < length ls → {k : Words} → In k (parts (get_or ls m [])) → In k (states ls)
  unfolding states
  in-states m h i = in-distinct (in_all ls m h i)

  states-in : {k : Words} → In k (states ls) → (m : ℕ) × (m < length ls) × In k (parts (get_or ls m []))
  unfolding states
  states-in i = all_in ls (distinct-in (all_residuals ls) i)

  pub states-apart : Apart (states ls)
  unfolding states
  states-apart = distinct_apart (all_residuals ls)

  pub list-in-states : (m : ℕ) → m < length ls → Filled (get_or ls m []) → In (get_or ls m []) (states ls)
  list-in-states m h f = in-states m h (in-residuals _ (get_or ls m []) (λ _. omega arith) f)

  pub after-in-states : {k : Words} → In k (states ls) → (x : ℕ) → x < letters → Filled (after x k) → In (after x k) (states ls)
  after-in-states i x h f =
      let (m, g, j) = states-in i in
      in-states m g (after-in-residuals _ (get_or ls m []) (λ _. omega arith) x h j f)

-- induction over the states
pub states-all : (P : Words → Type 0) → Carried P → (ls : List Words)
    → ((m : ℕ) → m < length ls → Filled (get_or ls m []) → P (get_or ls m [])) → {k : Words} → In k (states ls) → P k
states-all P step ls p i = let (m, h, j) = states-in ls i in residuals-all P step _ (get_or ls m []) (p m h) j

pub states-filled : (ls : List Words) {k : Words} → In k (states ls) → Filled k
states-filled ls i = states-all Filled (λ x h k p f. f) ls (λ m h f. f) i
