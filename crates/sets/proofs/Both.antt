-- The first word of two plain sets together is the smaller of their first words, or both of them where they are the same. Each law is `ext`: both
-- sides rise, and have the same words. Assumes nothing.
use mathlib.Core.Path.{◌≡◌, refl}
use mathlib.Core.Bool.{Bool, true, false, ◌||◌, or_assoc, or-false}
use mathlib.Core.Logic.{inl, inr}
use mathlib.Core.List.{[], ◌∷◌}
use Rattle.letters.specs.Words.{Word, before, same}
use Rattle.sets.specs.Sets.{Words, member, Above, Rising, both}
use Rattle.sets.proofs.Membership.{either}
use Rattle.sets.proofs.Sets.{or_swap, member-both, member-above, members-above, above-rising, rising-both, ext}

-- a set and the empty one
pub both-alone : (l : Words) → Rising l → both l [] ≡ l
unfolding member
both-alone l r = ext (both l []) l (rising-both l [] tt) r (λ w. rw member-both (or-false (member w l)))

above-both : (w : Word) (k l : Words) → Above w k → Above w l → Above w (both k l)
above-both w k l h g =
    members-above w (both k l) (λ u m. elim (either (member u k) (member u l) (rw member-both at m)) [
      | inl e ↦ member-above w k h u e
      | inr e ↦ member-above w l g u e
    ])

once : (a b c : Bool) → ((a || b) || (a || c)) ≡ (a || (b || c))
once true b c = refl
once false b c = refl

module _ (u : Word) (us : Words) (rising : Rising (u ∷ us)) where
  front : (l : Words) → Above u l → Rising l → both (u ∷ us) l ≡ u ∷ both us l
  unfolding member
  front l above r =
      ext (both (u ∷ us) l) (u ∷ both us l) (rising-both (u ∷ us) l r) (above-both u us l rising.0 above, rising-both us l r)
      (λ w. rw (member-both w (u ∷ us) l, member-both w us l) (or_assoc (same w u) (member w us) (member w l)))

  -- the second set is empty
  pub both-none : both (u ∷ us) [] ≡ u ∷ both us []
  both-none = front [] tt tt

  -- it has a first word too: behind that of the first set, the same, or before it
  module _ (v : Word) (vs : Words) (rises : Rising (v ∷ vs)) where
    pub both_first : before u v ≡ true → both (u ∷ us) (v ∷ vs) ≡ u ∷ both us (v ∷ vs)
    both_first b = front (v ∷ vs) (above-rising u v vs b rises) rises

    pub both-tie : u ≡ v → both (u ∷ us) (v ∷ vs) ≡ u ∷ both us vs
    unfolding member
    both-tie e =
        ext (both (u ∷ us) (v ∷ vs)) (u ∷ both us vs) (rising-both (u ∷ us) (v ∷ vs) rises)
        (above-both u us vs rising.0 (rw e rises.0), rising-both us vs rises.1)
        (λ w. rw (member-both w (u ∷ us) (v ∷ vs), member-both w us vs, ← e) (once (same w u) (member w us) (member w vs)))

    pub both-second : before v u ≡ true → both (u ∷ us) (v ∷ vs) ≡ v ∷ both (u ∷ us) vs
    unfolding member
    both-second b =
        ext (both (u ∷ us) (v ∷ vs)) (v ∷ both (u ∷ us) vs) (rising-both (u ∷ us) (v ∷ vs) rises)
        (above-both v (u ∷ us) vs (above-rising v u us b rising) rises.0, rising-both (u ∷ us) vs rises.1)
        (λ w. rw (member-both w (u ∷ us) (v ∷ vs), member-both w (u ∷ us) vs) (or_swap (member w (u ∷ us)) (same w v) (member w vs)))
