-- `distinct` has every set, and each once; and `place_in` finds a set where it stands, or goes past the end. `alike` decides: what it holds
-- for alike is equal, so a set that is thrown out stands further ahead, and the set at the head is not among those kept behind it.
-- Assumes nothing.
use Prim.Native.Nat.{ℕ, zero, suc, ◌≤◌, ◌<◌}
use native.Mathlib.Omega.{arith}
use mathlib.Core.Path.{◌≡◌, refl, ap, sym}
use mathlib.Core.Bool.{Bool, true, false, not, cond, false≢true}
use mathlib.Core.Logic.{inl, inr}
use mathlib.Core.List.{List, [], ◌∷◌}
use lib.ListN.{length, get_or}
use Rattle.sets.specs.Sets.{Words}
use Rattle.sets.specs.Residuals.{alike, distinct, place_in}
use Rattle.sets.proofs.Residuals.{alike_refl, alike-eq}
use Rattle.sets.proofs.Membership.{In, here, there, in-cast, cons-in, get_or-in, Apart, keep-in, in-keep, keep_apart}

pub distinct-in : (ks : List Words) {k : Words} → In k (distinct ks) → In k ks
unfolding distinct
distinct-in [] i = i
distinct-in (l ∷ ks) i = elim (cons-in i) [ inl e ↦ here e | inr j ↦ there (distinct-in ks (keep-in _ (distinct ks) j).0) ]

pub in-distinct : {k : Words} {ks : List Words} → In k ks → In k (distinct ks)
unfolding distinct
in-distinct (here e) = here e
in-distinct {k} (there {x = l} {xs = ks} i) = go (in-distinct i) (alike k l) refl
  where
    go : In k (distinct ks) → (t : Bool) → alike k l ≡ t → In k (distinct (l ∷ ks))
    go rest true e = here (alike-eq k l e)
    go rest false e = there (in-keep _ rest (ap not e))

pub distinct_apart : (ks : List Words) → Apart (distinct ks)
unfolding distinct
distinct_apart [] = tt
distinct_apart (k ∷ ks) =
    (λ i. false≢true (rw (alike_refl k) at (keep-in _ (distinct ks) i).1), keep_apart _ (distinct ks) (distinct_apart ks))

pub in_place : {k : Words} {ks : List Words} → In k ks → (place_in k ks < length ks) × (get_or ks (place_in k ks) [] ≡ k)
unfolding place_in
in_place {k} (here {x = l} d) = let e : alike k l ≡ true = cc (alike_refl k) in rw e (omega arith, sym d)
in_place {k} (there {x = l} {xs = ks} i) = go (in_place i) (alike k l) refl
  where
    go : (place_in k ks < length ks) × (get_or ks (place_in k ks) [] ≡ k) → (t : Bool) → alike k l ≡ t
        → (cond t 0 (suc (place_in k ks)) < length (l ∷ ks)) × (get_or (l ∷ ks) (cond t 0 (suc (place_in k ks))) [] ≡ k)
    go rest true e = (omega arith, sym (alike-eq k l e))
    go rest false e = (omega arith, rest.1)

pub no_place : (k : Words) (ks : List Words) → (In k ks → ⊥) → length ks ≤ place_in k ks
unfolding place_in
no_place k [] none = omega arith
no_place k (l ∷ ks) none = go (no_place k ks (λ i. none (there i))) (alike k l) refl
  where
    go : length ks ≤ place_in k ks → (t : Bool) → alike k l ≡ t → length (l ∷ ks) ≤ cond t 0 (suc (place_in k ks))
    go rest true e = absurd (none (here (alike-eq k l e)))
    go rest false e = omega arith

pub place_at : (ks : List Words) → Apart ks → (p : ℕ) → p < length ks → place_in (get_or ks p []) ks ≡ p
unfolding place_in
place_at [] apart p h = absurd (omega arith)
place_at (k ∷ ks) apart zero h = rw (alike_refl k)
place_at (k ∷ ks) apart (suc p) h =
    go (get_or ks p []) (get_or-in [] ks p (omega arith)) (place_at ks apart.1 p (omega arith)) (alike (get_or ks p []) k) refl
  where
    go : (l : Words) → In l ks → place_in l ks ≡ p → (t : Bool) → alike l k ≡ t → cond t 0 (suc (place_in l ks)) ≡ suc p
    go l i rest true e = absurd (apart.0 (in-cast (sym (alike-eq l k e)) i))
    go l i rest false e = ap suc rest
