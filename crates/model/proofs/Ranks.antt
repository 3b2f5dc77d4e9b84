-- A name of a list stands behind as many names as its rank says, so nth gives it back, in the bytes that were added. In a rising list nothing
-- behind a word stands before it, so by the rank only the words in front of it are counted. Assumes nothing.
use Prim.Native.Nat.{ℕ}
use mathlib.Core.Path.{◌≡◌, refl}
use mathlib.Core.Bool.{Bool, true, false, ◌||◌, false≢true, and-eq-true_iff}
use mathlib.Core.List.{List, [], ◌∷◌}
use Rattle.letters.specs.Words.{Word, word_of, bytes_of, before, same}
use Rattle.letters.specs.Names.{is_name}
use Rattle.letters.proofs.Ordering.{order-refl, same-eq, before-trans}
use Rattle.letters.proofs.NameBytes.{name-again}
use Rattle.sets.specs.Sets.{Words, member, Above, Rising, Plain, keep}
use Rattle.sets.proofs.Sets.{member-keep, member-above, no-members}
use Rattle.model.specs.Lists.{rank_of, nth_of}

none_before : (w : Word) (l : Words) → Above w l → keep (λ v. before v w) l ≡ []
none_before w l above = no-members (keep (λ v. before v w) l) none
  where
    none : (v : Word) → member v (keep (λ u. before u w) l) ≡ true → ⊥
    none v m =
        let (early, there) = (and-eq-true_iff (before v w) (member v l)).0 (rw member-keep at m) in
        let itself : before w w ≡ true = before-trans w v w (member-above w l above v there) early in
        false≢true (rw order-refl at itself)

rising-nth : (w : Word) (l : Words) → Rising l → member w l ≡ true → nth_of (rank_of w l) l ≡ w
unfolding member keep
rising-nth w [] rising m = absurd (false≢true m)
rising-nth w (v ∷ vs) rising m = go (rising-nth w vs rising.1) (same w v) refl m
  where
    go : (member w vs ≡ true → nth_of (rank_of w vs) vs ≡ w) → (b : Bool) → same w v ≡ b → (b || member w vs) ≡ true
        → nth_of (rank_of w (v ∷ vs)) (v ∷ vs) ≡ w
    go rest true e m = let it = same-eq w v e in rw (← it, order-refl, none_before w vs (rw (← it) at rising.0))
    go rest false e m = rw (member-above v vs rising.0 w m) (rest m)

pub nth-rank : (w : Word) (l : Words) → Plain l → member w l ≡ true → nth_of (rank_of w l) l ≡ w
nth-rank w l plain = rising-nth w l plain.rising

-- nth gives back the bytes that were added
pub nth-name : (name : List ℕ) (l : Words) → is_name name ≡ true → Plain l → member (word_of name) l ≡ true
    → bytes_of (nth_of (rank_of (word_of name) l) l) ≡ name
nth-name name l e plain m = rw (nth-rank (word_of name) l plain m) (name-again name e)
