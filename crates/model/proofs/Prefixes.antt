-- How far a name gets on a list. Two words share the letters that they begin with alike, and no more; so the most that a word shares with a name
-- on the list is its longest prefix that some name begins with. Letter by letter: what begins with the first letter goes on with the rest of the
-- word in what is left of the list after that letter. Assumes nothing.
use Prim.Native.Nat.{ℕ, zero, suc, max, ◌≤◌, ◌<◌}
use native.Mathlib.Omega.{arith}
use mathlib.Core.Path.{◌≡◌, refl, ap}
use mathlib.Core.Logic.{inl, inr}
use mathlib.Core.Bool.{cond, false≢true, or-true}
use mathlib.Core.List.{[], ◌∷◌}
use lib.Dec.{eqb, ltb}
use lib.ListN.{length, take}
use borrow.Author.Tests.{eqb-true, eq-eqb, ltb-true, ltb-false}
use Rattle.letters.specs.Words.{Word, same}
use Rattle.letters.proofs.Tests.{by-test}
use Rattle.letters.proofs.Ordering.{same_refl, same-eq}
use Rattle.sets.specs.Sets.{Words, member}
use Rattle.sets.specs.Residuals.{after}
use Rattle.sets.proofs.Membership.{either}
use Rattle.model.specs.Lists.{has_names}
use Rattle.model.specs.Prefixes.{shared, how_far, Begun, LongestPrefix}

pub shared_long : (w v : Word) → shared w v ≤ length w
unfolding shared
shared_long [] v = omega arith
shared_long (x ∷ w) [] = omega arith
shared_long (x ∷ w) (y ∷ v) = by-test (eqb x y) (λ e. rw e (omega (arith, shared_long w v))) (λ e. rw e (omega arith))

pub shared_alike : (w v : Word) → take (shared w v) v ≡ take (shared w v) w
unfolding shared
shared_alike [] v = refl
shared_alike (x ∷ w) [] = refl
shared_alike (x ∷ w) (y ∷ v) =
    by-test (eqb x y)
    (λ e. let same = eqb-true x y e in rw e (rw same (ap (λ (u : Word). y ∷ u) (shared_alike w v))))
    (λ e. rw e)

-- who begins like a word for k letters shares at least these
pub alike-shared : (w v : Word) (k : ℕ) → k ≤ length w → take k v ≡ take k w → k ≤ shared w v
unfolding shared
alike-shared w v zero h e = omega arith
alike-shared [] v (suc k) h e = absurd (omega (arith, h))
alike-shared (x ∷ w) [] (suc k) h e = absurd (omega (arith, ap (λ (u : Word). length u) e))
alike-shared (x ∷ w) (y ∷ v) (suc k) h e =
    let same : x ≡ y = cc e in
    let more : take k v ≡ take k w = cc e in
    rw (eq-eqb x y same) (omega (arith, alike-shared w v k (omega arith) more))

begun-further : (w u : Word) (l : Words) (n : ℕ) → Begun w l n → Begun w (u ∷ l) n
unfolding member
begun-further w u l n b = record { name = b.name; listed = rw (b.listed, or-true); long = b.long; alike = b.alike }

-- "the longest prefix of the given name that some name on the list begins with"
pub how-far-longest : (w : Word) (l : Words) → LongestPrefix w l (how_far w l)
unfolding how_far member
how-far-longest w l = record { begun = begun l; none_longer = longer l }
  where
    begun : (l : Words) → 0 < how_far w l → Begun w l (how_far w l)
    begun [] some = absurd (omega arith)
    begun (v ∷ l) some =
        by-test (ltb (shared w v) (how_far w l))
        (λ less.
        let e : max (shared w v) (how_far w l) ≡ how_far w l = omega (arith, ltb-true (shared w v) (how_far w l) less) in
        rw e (begun-further w v l (how_far w l) (begun l (omega (arith, ltb-true (shared w v) (how_far w l) less)))))
        (λ more.
        let e : max (shared w v) (how_far w l) ≡ shared w v = omega (arith, ltb-false (shared w v) (how_far w l) more) in
        rw e (record { name = v; listed = rw (same_refl v); long = shared_long w v; alike = shared_alike w v }))

    longer : (l : Words) (k : ℕ) → Begun w l k → k ≤ how_far w l
    longer [] k b = absurd (false≢true b.listed)
    longer (v ∷ l) k b =
        elim (either (same b.name v) (member b.name l) b.listed) [
          | inl e ↦ omega (arith, alike-shared w v k b.long (rw (same-eq b.name v e) at b.alike))
          | inr e ↦ omega (arith, longer l k (record { name = b.name; listed = e; long = b.long; alike = b.alike }))
        ]

pub how-far-none : (w : Word) → how_far w [] ≡ 0
unfolding how_far
how-far-none w = refl

pub how-far-empty : (l : Words) → how_far [] l ≡ 0
unfolding how_far shared
how-far-empty [] = refl
how-far-empty (v ∷ l) = rw (how-far-empty l)

-- the first letter, and then the rest of the word in what is left of the list
pub how-far-step : (x : ℕ) (w : Word) (l : Words) → how_far (x ∷ w) l ≡ cond (has_names (after x l)) (suc (how_far w (after x l))) 0
unfolding how_far shared after
how-far-step x w [] = refl
how-far-step x w ([] ∷ l) = rw (how-far-step x w l) (omega arith)
how-far-step x w ((y ∷ v) ∷ l) =
    by-test (eqb x y) (λ e. rw (e, how-far-step x w l) (go (after x l))) (λ e. rw (e, how-far-step x w l) (omega arith))
  where
    go : (k : Words) → max (suc (shared w v)) (cond (has_names k) (suc (how_far w k)) 0) ≡ suc (max (shared w v) (how_far w k))
    go [] = omega arith
    go (u ∷ k) = omega arith
