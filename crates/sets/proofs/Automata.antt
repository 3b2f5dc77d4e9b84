-- The first step of a word in an automaton: nothing is accepted from what is no state, and from a state a word is accepted if its rest is
-- accepted where the arc leads. And the last step: from the state that a word reaches, one more letter reaches where its arc leads.
-- Assumes nothing.
use Prim.Native.Nat.{ℕ, ◌<◌}
use mathlib.Core.Path.{◌≡◌, refl, ◌∙◌}
use mathlib.Core.Bool.{true, false, and-eq-true_iff}
use mathlib.Core.List.{[], ◌∷◌, ◌++◌}
use Rattle.letters.specs.Letters.{letters}
use Rattle.letters.specs.Words.{Word}
use Rattle.sets.specs.Automata.{Automaton, is_state, end, leads, in_language, reachable}
use Rattle.sets.proofs.Membership.{each_append}

module _ (A : Automaton) (s : ℕ) where
  pub none-accepted : is_state A s ≡ false → (w : Word) → in_language A w s ≡ false
  unfolding leads
  none-accepted e [] = rw e
  none-accepted e (x ∷ w) = rw e

  pub accepts-empty : is_state A s ≡ true → in_language A [] s ≡ A.final s
  unfolding leads end
  accepts-empty e = rw e

  pub accepts-step : is_state A s ≡ true → (x : ℕ) (w : Word) → in_language A (x ∷ w) s ≡ in_language A w (A.arc s x)
  unfolding leads end
  accepts-step e x w = rw e

module _ (A : Automaton) where
  pub leads-state : (w : Word) (s : ℕ) → leads A w s ≡ true → is_state A s ≡ true
  unfolding leads
  leads-state [] s e = e
  leads-state (x ∷ w) s e = ((and-eq-true_iff (is_state A s) _).0 e).0

  end-last : (w : Word) (x s : ℕ) → end A (w ++ x ∷ []) s ≡ A.arc (end A w s) x
  unfolding end
  end-last [] x s = refl
  end-last (y ∷ w) x s = end-last w x (A.arc s y)

  leads-last : (w : Word) (x s : ℕ) → leads A w s ≡ true → is_state A (A.arc (end A w s) x) ≡ true → leads A (w ++ x ∷ []) s ≡ true
  unfolding leads end
  leads-last [] x s e h = rw (e, h)
  leads-last (y ∷ w) x s e h =
      let (state, rest) = (and-eq-true_iff (is_state A s) _).0 e in
      rw (state, leads-last w x (A.arc s y) rest h)

  pub reachable-self : (s : ℕ) → is_state A s ≡ true → reachable A s s
  unfolding leads end
  reachable-self s e = record { word = []; spelled = tt; defined = e; there = refl }

  pub reachable-arc : (r s x : ℕ) → reachable A r s → x < letters → is_state A (A.arc s x) ≡ true → reachable A r (A.arc s x)
  reachable-arc r s x p h e =
      record {
        word = p.word ++ x ∷ [];
        spelled = each_append _ p.word (x ∷ []) p.spelled (h, tt);
        defined = leads-last p.word x r p.defined (rw p.there e);
        there = end-last p.word x r ∙ rw p.there;
      }
