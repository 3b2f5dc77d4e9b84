-- The letters that a name begins with, and how deep a name is in the group of some letters: it begins with them exactly if it is one deeper than
-- they are many. Behind a group, the next name does not begin with the group's letters; so it shares as many with them as with all but the last,
-- and its depth is handed on from group to group. Assumes nothing.
use Prim.Native.Nat.{ℕ, suc, ◌+◌, ◌≤◌, ◌<◌}
use native.Mathlib.Omega.{arith}
use native.Mathlib.Numerals.{add-one}
use mathlib.Core.Path.{◌≡◌, refl, sym, ap, ◌∙◌}
use mathlib.Core.List.{List, [], ◌∷◌, ◌++◌, map-append}
use lib.Dec.{eqb}
use lib.ListN.{length, take, drop, get_or, length-map, take-append-drop}
use lib.Seq.{length-take-le, take-suc, take_all, take_at, drop-cons}
use borrow.Author.Tests.{eqb-true}
use Rattle.letters.specs.Letters.{letters, letter}
use Rattle.letters.specs.Words.{Word, word_of, Spelled}
use Rattle.letters.proofs.Tests.{by-test}
use Rattle.sets.specs.Sets.{Words}
use Rattle.sets.specs.Residuals.{residual}
use Rattle.sets.proofs.Residuals.{residual-begun}
use Rattle.model.specs.Prefixes.{shared}
use Rattle.model.proofs.Prefixes.{shared_long, shared_alike, alike-shared}
use Rattle.merging.specs.declared.places.Places.{Places}
use Rattle.merging.specs.Merging.{next_bytes, places_after, Lists, both_from}
use Rattle.merging.proofs.Merging.{Taken, Over, next-taken, next-over}
use Rattle.building.specs.Groups.{opening, depth_of, deep_in}

-- ---- the first letters of a name

module _ (name : List ℕ) (d : ℕ) where
  pub opening-length : d ≤ length name → length (opening name d) ≡ d
  opening-length h = length-map (take d name) letter ∙ length-take-le d name h

  pub opening-more : d < length name → opening name (d + 1) ≡ opening name d ++ letter (get_or name d 0) ∷ []
  opening-more h = rw (add-one, take-suc name d 0 h, map-append)

  pub name-opens : word_of name ≡ opening name d ++ word_of (drop d name)
  name-opens = ap word_of (sym (take-append-drop d name)) ∙ map-append letter (take d name) (drop d name)

  pub name-goes-on : d < length name → word_of name ≡ opening name d ++ letter (get_or name d 0) ∷ word_of (drop (suc d) name)
  name-goes-on h = name-opens ∙ ap (λ (l : List ℕ). opening name d ++ word_of l) (drop-cons name d 0 h)

  pub opening-all : length name ≤ d → opening name d ≡ word_of name
  opening-all h = ap word_of (take_all d name h)

  -- where it begins with so many letters, these are they
  pub opening_of : (u v : Word) → length u ≡ d → d ≤ length name → word_of name ≡ u ++ v → opening name d ≡ u
  opening_of u v long h first =
      let front = ap (λ (w : Word). take d w) (sym name-opens ∙ first) in
      sym (take_at (opening name d) _ d (opening-length h)) ∙ front ∙ take_at u v d long

pub spelled-letter : (u : Word) (x : ℕ) (v : Word) → Spelled (u ++ x ∷ v) → x < letters
spelled-letter [] x v s = s.0
spelled-letter (y ∷ u) x v s = spelled-letter u x v s.1

-- ---- how many letters a word shares with u

shares-all : (u v : Word) → length u ≤ shared u v → (w : Word) × (v ≡ u ++ w)
shares-all u v h =
    let all : shared u v ≡ length u = omega (arith, shared_long u v) in
    let front : take (length u) v ≡ u = (rw all at (shared_alike u v)) ∙ take_all (length u) u (omega arith) in
    (drop (length u) v, sym (take-append-drop (length u) v) ∙ ap (λ (l : Word). l ++ drop (length u) v) front)

pub begun-shared : (u w : Word) → shared u (u ++ w) ≡ length u
begun-shared u w =
    let front = take_at u w (length u) refl ∙ sym (take_all (length u) u (omega arith)) in
    omega (arith, shared_long u (u ++ w), alike-shared u (u ++ w) (length u) (omega arith) front)

-- who does not begin with u and x shares no more with them than with u
shared-shorter : (u : Word) (x : ℕ) (v : Word) → ((w : Word) → v ≡ (u ++ x ∷ []) ++ w → ⊥) → shared (u ++ x ∷ []) v ≡ shared u v
unfolding shared
shared-shorter [] x [] other = refl
shared-shorter [] x (y ∷ v) other = by-test (eqb x y) (λ e. absurd (other v (cc (eqb-true x y e)))) (λ e. rw e)
shared-shorter (z ∷ u) x [] other = refl
shared-shorter (z ∷ u) x (y ∷ v) other =
    by-test (eqb z y) (λ e. rw (e, shared-shorter u x v (λ w h. other w (cc (eqb-true z y e, h))))) (λ e. rw e)

-- ---- how deep the first of some words is

module _ (u : Word) where
  pub deep-begun : (l : Words) → length u < deep_in u l → (w : Word) × (more : Words) × (l ≡ (u ++ w) ∷ more)
  deep-begun [] h = absurd (omega arith)
  deep-begun (v ∷ l) h = let (w, e) = shares-all u v (omega arith) in (w, l, ap (λ (b : Word). b ∷ l) e)

  pub deep-other : (l : Words) → deep_in u l ≤ length u → (b : Word) (more : Words) → l ≡ b ∷ more → (w : Word) → b ≡ u ++ w → ⊥
  deep-other l h b more e w begun = omega (arith, rw (e, begun, begun-shared u w) at h)

  pub deep-shorter : (x : ℕ) (l : Words) → residual (u ++ x ∷ []) l ≡ [] → deep_in (u ++ x ∷ []) l ≡ deep_in u l
  deep-shorter x [] none = refl
  deep-shorter x (v ∷ l) none = ap suc (shared-shorter u x v other)
    where
      other : (w : Word) → v ≡ (u ++ x ∷ []) ++ w → ⊥
      other w e =
          let clash : ◌≡◌ {A = ℕ} 0 1 = cc (none, ap (λ (b : Word). residual (u ++ x ∷ []) (b ∷ l)) e, residual-begun (u ++ x ∷ []) (w ∷ []) l) in
          omega arith

  -- the next name of two lists is the first of their words
  pub next-deep : {f s : List ℕ} {at : Places} → Lists f s at → depth_of u (next_bytes f s at) ≡ deep_in u (both_from f s at)
  next-deep {f} {s} {at} lists = go (next_bytes f s at) (next-taken lists) (next-over lists)
    where
      go : (name : List ℕ) → (0 < length name → Taken f s at name (places_after f s at)) → (length name ≡ 0 → Over f s at)
          → depth_of u name ≡ deep_in u (both_from f s at)
      go [] taken over = rw (over refl).none
      go (b ∷ bytes) taken over = rw (taken (omega arith)).words
