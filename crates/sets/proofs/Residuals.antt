-- What is left after some letters: a word is in it where those letters and the word are in the set. So what is left of a plain set is plain,
-- and a walk from letter to letter is followed by membership alone. What is left of lists one behind the other goes list by list. `alike` says
-- whether two sets that are left are one. Assumes nothing.
use Prim.Native.Nat.{ℕ}
use mathlib.Core.Path.{◌≡◌, refl, ◌∙◌}
use mathlib.Core.Bool.{true, false, cond, and-eq-true_iff}
use mathlib.Core.List.{[], ◌∷◌, ◌++◌, map, map-id}
use lib.Dec.{eqb}
use borrow.Author.Tests.{eqb-true, eq-eqb, ne_eqb}
use Rattle.letters.specs.Words.{Word, Spelled, order, same}
use Rattle.letters.proofs.Ordering.{order-cons, same-cons, same_refl, same-eq}
use Rattle.sets.specs.Sets.{Words, member, Above, Rising, Plain}
use Rattle.sets.specs.Residuals.{after, residual, alike}
use Rattle.sets.proofs.Sets.{member-cond, member-each, members-each, member-above, members-above, rising-cond}

pub member-after : (x : ℕ) (w : Word) (l : Words) → member w (after x l) ≡ member (x ∷ w) l
unfolding order member after
member-after x w [] = refl
member-after x w ([] ∷ vs) = member-after x w vs
member-after x w ((y ∷ v) ∷ vs) = rw (member-cond, same-cons, member-after x w vs)

pub member-residual : (u w : Word) (l : Words) → member w (residual u l) ≡ member (u ++ w) l
member-residual [] w l = refl
member-residual (x ∷ u) w l = rw (member-residual u w (after x l), member-after)

pub residual-none : (u : Word) → residual u [] ≡ []
unfolding after
residual-none [] = refl
residual-none (x ∷ u) = residual-none u

pub residual-on : (u v : Word) (l : Words) → residual (u ++ v) l ≡ residual v (residual u l)
residual-on [] v l = refl
residual-on (x ∷ u) v l = residual-on u v (after x l)

-- what is left of lists one behind the other, and of words that all begin with the letters
pub after-append : (x : ℕ) (k l : Words) → after x (k ++ l) ≡ after x k ++ after x l
unfolding after
after-append x [] l = refl
after-append x ([] ∷ k) l = after-append x k l
after-append x ((y ∷ w) ∷ k) l =
    let rest = after-append x k l in
    elim (eqb x y) as (λ t. cond t (w ∷ after x (k ++ l)) (after x (k ++ l)) ≡ cond t (w ∷ after x k) (after x k) ++ after x l) [
      | true ↦ cc
      | false ↦ rest
    ]

after-begun : (x : ℕ) (f : Word → Word) (k : Words) → after x (map (λ w. x ∷ f w) k) ≡ map f k
unfolding after
after-begun x f [] = refl
after-begun x f (w ∷ k) = rw (eq-eqb x x refl, after-begun x f k)

pub after-own : (x : ℕ) (k : Words) → after x (map (λ w. x ∷ w) k) ≡ k
after-own x k = after-begun x (λ w. w) k ∙ map-id k

pub after-other : (x y : ℕ) → (y ≡ x → ⊥) → (k : Words) → after y (map (λ w. x ∷ w) k) ≡ []
unfolding after
after-other x y h [] = refl
after-other x y h (w ∷ k) = rw (ne_eqb y x h) (after-other x y h k)

pub residual-begun : (u : Word) (k l : Words) → residual u (map (λ w. u ++ w) k ++ l) ≡ k ++ residual u l
residual-begun [] k l = rw map-id
residual-begun (x ∷ u) k l = rw (after-append x (map (λ w. x ∷ u ++ w) k) l, after-begun x (λ w. u ++ w) k) (residual-begun u k (after x l))

above-after : (x : ℕ) (w : Word) (l : Words) → Above (x ∷ w) l → Above w (after x l)
above-after x w l h =
    members-above w (after x l) (λ u m. rw order-cons at (member-above (x ∷ w) l h (x ∷ u) (rw member-after at m)))

rising-after : (x : ℕ) (l : Words) → Rising l → Rising (after x l)
unfolding after
rising-after x [] r = tt
rising-after x ([] ∷ vs) r = rising-after x vs r.1
rising-after x ((y ∷ v) ∷ vs) r =
    rising-cond (eqb x y) v (after x vs) (λ e. above-after x v vs (rw (eqb-true x y e) r.0)) (rising-after x vs r.1)

pub plain-after : (x : ℕ) (l : Words) → Plain l → Plain (after x l)
plain-after x l p = record {
  rising = rising-after x l p.rising;
  spelled = members-each Spelled (after x l) (λ u m. (member-each Spelled l p.spelled (x ∷ u) (rw member-after at m)).1);
}

pub plain-residual : (u : Word) (l : Words) → Plain l → Plain (residual u l)
plain-residual [] l p = p
plain-residual (x ∷ u) l p = plain-residual u (after x l) (plain-after x l p)

pub alike_refl : (l : Words) → alike l l ≡ true
unfolding alike
alike_refl [] = refl
alike_refl (w ∷ l) = simp (same_refl, alike_refl l)

pub alike-eq : (k l : Words) → alike k l ≡ true → k ≡ l
unfolding alike
alike-eq [] [] h = refl
alike-eq [] (w ∷ l) h = cc
alike-eq (v ∷ k) [] h = cc
alike-eq (v ∷ k) (w ∷ l) h =
    let p = (and-eq-true_iff (same v w) (alike k l)).0 h in
    cc (same-eq v w p.0, alike-eq k l p.1)
