-- Words that begin alike stand together in a list that rises. A loop goes through such a list group by group: the words that it has passed all
-- begin with the letters u, and of each letter that goes on from u either all the words are passed or none is. So what is left of the passed
-- words after a letter is what is left of all, once the group of that letter is passed. Where a word comes that does not begin with u, none
-- does that comes later: what stands between two words that begin with u begins so too. Assumes nothing.
use Prim.Native.Nat.{ℕ}
use native.Mathlib.Decide.{ℕ_discrete}
use mathlib.Core.Path.{◌≡◌, refl, sym, ◌∙◌}
use mathlib.Core.Bool.{true, false, false≢true, or-true, or-false}
use mathlib.Core.Logic.{inl, inr}
use mathlib.Core.List.{[], ◌∷◌, ◌++◌, map, map-append, append_assoc, append-nil}
use Rattle.letters.specs.Words.{Word, order, before, same}
use Rattle.letters.proofs.Ordering.{same_refl, same-eq, between-begins}
use Rattle.sets.specs.Sets.{Words, Filled, member, Above, Rising, Plain}
use Rattle.sets.specs.Residuals.{after, residual}
use Rattle.sets.proofs.Membership.{either, fails}
use Rattle.sets.proofs.Sets.{member-append, member-above, no-members, above-absent}
use Rattle.sets.proofs.Residuals.{member-residual, residual-none, residual-begun, after-append, after-own, after-other, plain-residual}

-- the words, each behind the letters u
abbrev pub begun : Word → Words → Words
begun u k = map (λ w. u ++ w) k

-- of the words ws, those that begin with u and go on with the words `done` are passed, and the words `rest` are to come
pub record Grouped (ws : Words) (u : Word) (done rest : Words) : Type 0 where
  pub split : ws ≡ begun u done ++ rest
  pub longer : member [] (residual u rest) ≡ false
  pub apart : (x : ℕ) → Filled (after x done) → after x (residual u rest) ≡ []

-- ---- the first word

first-longer : (x : ℕ) (a : Word) (l : Words) → Above (x ∷ a) l → member [] ((x ∷ a) ∷ l) ≡ false
unfolding member order
first-longer x a l h = fails (member [] l) (λ m. false≢true (member-above (x ∷ a) l h [] m))

module _ (ws : Words) (plain : Plain ws) (u : Word) (more : Words) where
  -- it is u itself, and passed
  pub grouped-own : ws ≡ (u ++ []) ∷ more → Grouped ws u ([] ∷ []) more
  unfolding after
  grouped-own first =
      let rising = rw (first, residual-begun u ([] ∷ []) more) at (plain-residual u ws plain).rising in
      record { split = first; longer = above-absent [] (residual u more) rising.0; apart = λ x f. absurd f }

  -- it goes on, and none is passed
  pub grouped-none : (x : ℕ) (a : Word) → ws ≡ (u ++ x ∷ a) ∷ more → Grouped ws u [] ws
  unfolding after
  grouped-none x a first =
      let rising = rw (first, residual-begun u ((x ∷ a) ∷ []) more) at (plain-residual u ws plain).rising in
      record {
        split = refl;
        longer = rw (first, residual-begun u ((x ∷ a) ∷ []) more) (first-longer x a (residual u more) rising.0);
        apart = λ x f. absurd f;
      }

-- ---- one group more

begun-on : (u : Word) (x : ℕ) (k : Words) → begun (u ++ x ∷ []) k ≡ begun u (map (λ w. x ∷ w) k)
begun-on u x [] = refl
begun-on u x (w ∷ k) = rw (append_assoc u (x ∷ []) w, begun-on u x k)

all-longer : (x : ℕ) (k : Words) → member [] (map (λ w. x ∷ w) k) ≡ false
unfolding member order
all-longer x [] = refl
all-longer x (w ∷ k) = all-longer x k

module _ {ws : Words} {u : Word} {done rest : Words} (grouped : Grouped ws u done rest) where
  pub left : residual u ws ≡ done ++ residual u rest
  left = rw grouped.split (residual-begun u done rest)

  -- the group of the letter x is to come, and has the words k
  module _ (x : ℕ) (k : Words) (to-come : after x (residual u rest) ≡ k) (some : Filled k) where
    none_before : after x done ≡ []
    none_before = go (after x done) refl
      where
        go : (l : Words) → after x done ≡ l → l ≡ []
        go [] e = refl
        go (w ∷ l) e = absurd (rw (sym to-come ∙ grouped.apart x (rw e tt)) at some)

    pub all_words : after x (residual u ws) ≡ k
    all_words = rw (left, after-append x done, none_before, to-come)

    pub own-words : after x (done ++ map (λ w. x ∷ w) k) ≡ k
    own-words = rw (after-append x done, none_before, after-own)

    pub other-words : (y : ℕ) → (y ≡ x → ⊥) → after y (done ++ map (λ w. x ∷ w) k) ≡ after y done
    other-words y other = rw (after-append y done, after-other x y other k) (append-nil (after y done))

    pub ends_same : member [] (done ++ map (λ w. x ∷ w) k) ≡ member [] done
    ends_same = rw (member-append, all-longer x k) (or-false (member [] done))

    -- now it is passed, and no word behind it goes on from u with x
    pub grouped-more : (behind : Words) → rest ≡ begun (u ++ x ∷ []) k ++ behind → after x (residual u behind) ≡ []
        → Grouped ws u (done ++ map (λ w. x ∷ w) k) behind
    grouped-more behind split none =
        let onward : residual u rest ≡ map (λ w. x ∷ w) k ++ residual u behind =
        rw (split, begun-on u x k) (residual-begun u (map (λ w. x ∷ w) k) behind) in
        record {
          split = grouped.split ∙ rw (split, begun-on u x k, map-append, append_assoc);
          longer = rw (onward, member-append, all-longer x k) at grouped.longer;
          apart = λ y f. elim (ℕ_discrete y x) [
            | yes e ↦ rw e none
            | no e ↦ rw (onward, after-append, after-other x y e k) at (grouped.apart y (rw (other-words y e) at f))
          ];
        }

-- ---- no group more

none-later : (u d b : Word) (more : Words) → before (u ++ d) b ≡ true → Rising (b ∷ more) → ((v : Word) → b ≡ u ++ v → ⊥)
    → residual u (b ∷ more) ≡ []
unfolding member
none-later u d b more first rising other =
    no-members _ (λ v m. elim (either (same (u ++ v) b) (member (u ++ v) more) (rw member-residual at m)) [
      | inl e ↦ other v (sym (same-eq (u ++ v) b e))
      | inr i ↦ let (w, e) = between-begins u d v b first (member-above b more rising.0 (u ++ v) i) in other w e
    ])

module _ (ws : Words) (u : Word) (rising : Rising ws) (a : Word) (all : Words) (first : ws ≡ (u ++ a) ∷ all) where
  -- the next word does not begin with u, though the first does
  pub none-to-come : (done rest : Words) → Grouped ws u done rest → Rising rest
      → ((b : Word) (more : Words) → rest ≡ b ∷ more → (v : Word) → b ≡ u ++ v → ⊥) → residual u rest ≡ []
  unfolding member
  none-to-come done [] grouped rises other = residual-none u
  none-to-come [] (b ∷ more) grouped rises other = absurd (other b more refl a (cc (first, grouped.split)))
  none-to-come (d ∷ ds) (b ∷ more) grouped rises other =
      let above = rw grouped.split at rising in
      let first = member-above (u ++ d) (begun u ds ++ b ∷ more) above.0 b (rw (member-append, same_refl, or-true)) in
      none-later u d b more first rises (other b more refl)
