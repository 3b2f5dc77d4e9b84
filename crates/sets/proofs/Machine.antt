-- An automaton with these languages that has a state for each set in `states`: a state is a set's place, its arc leads to the place of what
-- is left after the letter, and it is final where the set has the empty word. The place of the empty set is past the end, so it is no
-- state. By recursion on the word, the place of a set accepts the words of the set. Assumes nothing.
use Prim.Native.Nat.{ℕ, zero, suc, ◌≤◌, ◌<◌}
use native.Mathlib.Omega.{arith}
use mathlib.Core.Path.{◌≡◌, refl, ap, ◌∙◌}
use mathlib.Core.Bool.{Bool, true, false, ◌||◌}
use mathlib.Core.List.{List, [], ◌∷◌, map}
use lib.Dec.{eqb}
use borrow.Author.Tests.{eqb-false, ne_eqb}
use lib.ListN.{length, get_or, length-map}
use Rattle.letters.specs.Words.{Word, Spelled}
use Rattle.sets.specs.Sets.{Words, Filled, member}
use Rattle.sets.specs.Residuals.{after, states, place_in}
use Rattle.sets.specs.Automata.{Automaton, among, Once, in_language, Languages}
use Rattle.sets.proofs.Membership.{In}
use Rattle.sets.proofs.Residuals.{member-after}
use Rattle.sets.proofs.Distinct.{in_place, no_place}
use Rattle.sets.proofs.States.{list-in-states, after-in-states, states-filled}
use Rattle.sets.proofs.Automata.{none-accepted, accepts-empty, accepts-step}

-- the numbers below n
abbrev below : ℕ → List ℕ
below zero = []
below (suc n) = n ∷ below n

pub length-below : (n : ℕ) → length (below n) ≡ n
length-below zero = refl
length-below (suc n) = ap suc (length-below n)

listed_below : (n s : ℕ) → s < n → among s (below n) ≡ true
unfolding among
listed_below zero s h = absurd (omega arith)
listed_below (suc n) s h = go (λ g. listed_below n s g) (eqb s n) refl
  where
    go : (s < n → among s (below n) ≡ true) → (t : Bool) → eqb s n ≡ t → t || among s (below n) ≡ true
    go rest true e = refl
    go rest false e = rest (omega (arith, eqb-false s n e))

unlisted-below : (n s : ℕ) → n ≤ s → among s (below n) ≡ false
unfolding among
unlisted-below zero s h = refl
unlisted-below (suc n) s h = rw (ne_eqb s n (omega arith)) (unlisted-below n s (omega arith))

pub once-below : (n : ℕ) → Once (below n)
once-below zero = tt
once-below (suc n) = (unlisted-below n n (omega arith), once-below n)

get_or_map : (f : Words → ℕ) (ls : List Words) (m : ℕ) → m < length ls → get_or (map f ls) m 0 ≡ f (get_or ls m [])
get_or_map f [] m h = absurd (omega arith)
get_or_map f (l ∷ ls) zero h = refl
get_or_map f (l ∷ ls) (suc m) h = get_or_map f ls m (omega arith)

module _ (ls : List Words) where
  -- the place of a set among the states, and the set at a place
  abbrev place : Words → ℕ
  place k = place_in k (states ls)

  abbrev at : ℕ → Words
  at s = get_or (states ls) s []

  abbrev pub machine : Automaton
  machine =
      record {
        states = below (length (states ls));
        starts = map place ls;
        final = λ s. member [] (at s);
        arc = λ s x. place (after x (at s));
      }

  empty-agrees : (w : Word) → in_language machine w (place []) ≡ member w []
  unfolding member
  empty-agrees w = none-accepted machine (place []) (unlisted-below _ _ (no_place [] (states ls) (λ i. states-filled ls i))) w

  place-agrees : (w : Word) → Spelled w → (k : Words) → (Filled k → In k (states ls)) → in_language machine w (place k) ≡ member w k
  place-agrees [] g [] i = empty-agrees []
  place-agrees (x ∷ w) g [] i = empty-agrees (x ∷ w)
  place-agrees [] g (v ∷ vs) i =
      let (h, e) = in_place (i tt) in
      accepts-empty machine (place (v ∷ vs)) (listed_below _ _ h) ∙ rw e
  place-agrees (x ∷ w) g (v ∷ vs) i =
      let (h, e) = in_place (i tt) in
      accepts-step machine (place (v ∷ vs)) (listed_below _ _ h) x w
      ∙ rw e (place-agrees w g.1 (after x (v ∷ vs)) (after-in-states ls (i tt) x g.0) ∙ member-after x w (v ∷ vs))

  pub machine-languages : Languages machine ls
  machine-languages =
      record {
        one_each = length-map ls place;
        language = λ m h w g. rw (get_or_map place ls m h) (place-agrees w g (get_or ls m []) (list-in-states ls m h));
      }
