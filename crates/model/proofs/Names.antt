-- A list with a name on it or off it: only that name's place on the list is as wanted, every other word's is as it was. Assumes nothing.
use Prim.Native.Nat.{ℕ, ◌<◌}
use mathlib.Core.Path.{◌≡◌, refl, ◌∙◌}
use mathlib.Core.Bool.{Bool, true, false, cond, not, ◌&&◌, ◌||◌}
use mathlib.Core.List.{[], ◌∷◌}
use borrow.Author.Tests.{eq-eqb}
use Rattle.letters.specs.Each.{Each}
use Rattle.letters.specs.Letters.{letters}
use Rattle.letters.specs.Words.{Word, Spelled, order, same}
use Rattle.letters.proofs.Ordering.{same-cons, same-eq}
use Rattle.sets.specs.Sets.{Words, member, Plain}
use Rattle.sets.specs.Residuals.{after}
use Rattle.sets.proofs.Sets.{member-insert, member-delete, member-each, members-each, plain-insert, plain-delete, plain-ext}
use Rattle.sets.proofs.Residuals.{member-after, plain-after}
use Rattle.model.specs.Rules.{with_name}

pub member-with-name : (on : Bool) (v w : Word) (l : Words) → member v (with_name on w l) ≡ cond (same v w) on (member v l)
member-with-name true v w l = member-insert v w l ∙ go (same v w) (member v l)
  where
    go : (a b : Bool) → (a || b) ≡ cond a true b
    go true b = refl
    go false b = refl
member-with-name false v w l = member-delete v w l ∙ go (same v w) (member v l)
  where
    go : (a b : Bool) → (not a && b) ≡ cond a false b
    go true b = refl
    go false b = refl

pub plain-with-name : (on : Bool) (w : Word) (l : Words) → Spelled w → Plain l → Plain (with_name on w l)
plain-with-name true w l s p = plain-insert w l s p
plain-with-name false w l s p = plain-delete w l p

-- what holds of the name and of each word of the list holds of each word of the list with it or without it
pub with-name-each : (P : Word → Type 0) (on : Bool) (w : Word) (l : Words) → P w → Each P l → Each P (with_name on w l)
with-name-each P on w l name each = members-each P (with_name on w l) (λ v m. go v (same v w) refl (rw (member-with-name on v w l) at m))
  where
    go : (v : Word) (b : Bool) → same v w ≡ b → cond b on (member v l) ≡ true → P v
    go v true e m = rw (same-eq v w e) name
    go v false e m = member-each P l each v m

-- a word that goes on leaves the empty word as it is
pub with-name-empty : (on : Bool) (x : ℕ) (w : Word) (l : Words) → member [] (with_name on (x ∷ w) l) ≡ member [] l
unfolding order
with-name-empty on x w l = member-with-name on [] (x ∷ w) l

-- what is left of the list after the word's first letter is the list that is left with what is left of the word
pub after-with-name : (on : Bool) (x : ℕ) (w : Word) (l : Words) → x < letters → Spelled w → Plain l
    → after x (with_name on (x ∷ w) l) ≡ with_name on w (after x l)
after-with-name on x w l h s p =
    plain-ext (after x (with_name on (x ∷ w) l)) _ (plain-after x _ (plain-with-name on (x ∷ w) l (h, s) p))
    (plain-with-name on w (after x l) s (plain-after x l p))
    (λ v spelled. rw (member-after, member-with-name on (x ∷ v), member-with-name on v, member-after, same-cons, eq-eqb x x refl))
