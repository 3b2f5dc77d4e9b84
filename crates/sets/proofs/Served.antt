-- No automaton with these languages has fewer states. A number serves a plain set where, taken as a state, it accepts the words of the set
-- and no others. What serves a set that has a word is a state, and then its arc serves what is left after the arc's letter; so every set in
-- `states` is served by a state. No number serves two plain sets, and the sets are all different: the states are at least as many as the
-- sets. Nothing is asked about cycles. Assumes nothing.
use Prim.Native.Nat.{ℕ, zero, suc, ◌≤◌, ◌<◌}
use mathlib.Core.Path.{◌≡◌, refl, sym, ◌∙◌}
use mathlib.Core.Bool.{Bool, true, false}
use mathlib.Core.List.{List, [], ◌∷◌}
use lib.ListN.{length, get_or}
use Rattle.letters.specs.Each.{Each}
use Rattle.letters.specs.Letters.{letters}
use Rattle.letters.specs.Words.{Word, Spelled}
use Rattle.letters.proofs.Ordering.{same_refl}
use Rattle.sets.specs.Sets.{Words, Filled, Plain, member}
use Rattle.sets.specs.Residuals.{after, states}
use Rattle.sets.specs.Automata.{Automaton, size, is_state, in_language, Languages}
use Rattle.sets.proofs.Membership.{In, listed_in}
use Rattle.sets.proofs.Pigeons.{pigeons}
use Rattle.sets.proofs.Sets.{plain-ext}
use Rattle.sets.proofs.Residuals.{member-after, plain-after}
use Rattle.sets.proofs.States.{Carried, states-all, states-apart}
use Rattle.sets.proofs.Automata.{none-accepted, accepts-step}

plain_at : (ls : List Words) → Each Plain ls → (m : ℕ) → Plain (get_or ls m [])
plain_at [] plain m = record { rising = tt; spelled = tt }
plain_at (l ∷ ls) plain zero = plain.0
plain_at (l ∷ ls) plain (suc m) = plain_at ls plain.1 m

-- the number, taken as a state, accepts the words of the plain set
record Serves (A : Automaton) (k : Words) (s : ℕ) : Type 0 where
  plain : Plain k
  agrees : (w : Word) → Spelled w → in_language A w s ≡ member w k

module _ (A : Automaton) where
  -- some state serves the set
  abbrev Served : Words → Type 0
  Served k = (s : ℕ) × (is_state A s ≡ true) × Serves A k s

  serves-one : (k l : Words) (s : ℕ) → Serves A k s → Serves A l s → k ≡ l
  serves-one k l s p q = plain-ext k l p.plain q.plain (λ w h. sym (p.agrees w h) ∙ q.agrees w h)

  filled-served : (k : Words) (s : ℕ) → Serves A k s → Filled k → Served k
  unfolding member
  filled-served [] s p f = absurd f
  filled-served (w ∷ ws) s p f = go (is_state A s) refl
    where
      go : (t : Bool) → is_state A s ≡ t → Served (w ∷ ws)
      go true e = (s, e, p)
      go false e = (s, cc (none-accepted A s e w, p.agrees w p.plain.spelled.0, same_refl w), p)

  arc-serves : (k : Words) (s : ℕ) → Serves A k s → is_state A s ≡ true → (x : ℕ) → x < letters → Serves A (after x k) (A.arc s x)
  arc-serves k s p e x h =
      record {
        plain = plain-after x k p.plain;
        agrees = λ w g. cc (accepts-step A s e x w, p.agrees (x ∷ w) (h, g), member-after x w k);
      }

  after-served : Carried Served
  after-served x h k p f = let (s, e, q) = p in filled-served (after x k) (A.arc s x) (arc-serves k s q e x h) f

  module _ (ls : List Words) (plain : Each Plain ls) (has : Languages A ls) where
    list-served : (m : ℕ) → m < length ls → Filled (get_or ls m []) → Served (get_or ls m [])
    list-served m h f =
        filled-served (get_or ls m []) (get_or A.starts m 0) (record { plain = plain_at ls plain m; agrees = has.language m h }) f

    state-place : (k : Words) → In k (states ls) → (s : ℕ) × In s A.states × Serves A k s
    state-place k i = let (s, e, p) = states-all Served after-served ls list-served i in (s, listed_in s A.states e, p)

    pub none_fewer : length (states ls) ≤ size A
    none_fewer = pigeons (Serves A) serves-one (states ls) A.states (states-apart ls) state-place
