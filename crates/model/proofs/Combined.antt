-- Two lists combined: a word is in the result as the operation chooses by whether it is in each of them. All else follows from that: the result
-- is a plain set, what is left of it after a letter is what is left of the two, combined, and of a list with itself or with none it is that
-- list or none. Assumes nothing.
use Prim.Native.Nat.{ℕ}
use mathlib.Core.Path.{◌≡◌, refl, ◌∙◌}
use mathlib.Core.Bool.{Bool, true, false, not, cond, ◌&&◌, ◌||◌, false≢true, and-true, and-false}
use mathlib.Core.List.{[], ◌∷◌}
use lib.Dec.{eqb}
use Rattle.letters.specs.Each.{Each}
use Rattle.letters.specs.Words.{Word}
use Rattle.sets.specs.Sets.{Words, member, Plain, both, common, without}
use Rattle.sets.specs.Residuals.{after}
use Rattle.sets.proofs.Sets.{member-both, member-common, member-without, plain-both, plain-common, plain-without}
use Rattle.sets.proofs.Sets.{member-each, members-each, plain-ext}
use Rattle.sets.proofs.Residuals.{member-after, plain-after}
use Rattle.model.specs.Rules.{combined, chosen}

pub member-combined : (op : ℕ) (w : Word) (k l : Words) → member w (combined op k l) ≡ chosen op (member w k) (member w l)
member-combined op w k l = go (eqb op 1) (eqb op 2)
  where
    go : (first second : Bool) → member w (cond first (both k l) (cond second (common k l) (without k l)))
        ≡ cond first (member w k || member w l) (cond second (member w k && member w l) (member w k && not (member w l)))
    go true second = member-both w k l
    go false true = member-common w k l
    go false false = member-without w k l

pub plain-combined : (op : ℕ) (k l : Words) → Plain k → Plain l → Plain (combined op k l)
plain-combined op k l p q = go (eqb op 1) (eqb op 2)
  where
    go : (first second : Bool) → Plain (cond first (both k l) (cond second (common k l) (without k l)))
    go true second = plain-both k l p q
    go false true = plain-common k l p
    go false false = plain-without k l p

-- a word that is in neither is not chosen
pub chosen_none : (op : ℕ) → chosen op false false ≡ false
chosen_none op = go (eqb op 1) (eqb op 2)
  where
    go : (first second : Bool) → cond first false (cond second false false) ≡ false
    go true second = refl
    go false true = refl
    go false false = refl

chosen-where : (op : ℕ) (a b c : Bool) → chosen op (a && c) (b && c) ≡ (chosen op a b && c)
chosen-where op a b true = simp and-true
chosen-where op a b false = simp and-false (chosen_none op)

-- what holds of each word of both holds of each word that is chosen
pub combined-each : (P : Word → Type 0) (op : ℕ) (k l : Words) → Each P k → Each P l → Each P (combined op k l)
combined-each P op k l f g = members-each P (combined op k l) (λ w m. go w (member w k) refl (member w l) refl (rw (member-combined op w k l) at m))
  where
    go : (w : Word) (a : Bool) → member w k ≡ a → (b : Bool) → member w l ≡ b → chosen op a b ≡ true → P w
    go w true d b e c = member-each P k f w d
    go w false d true e c = member-each P l g w e
    go w false d false e c = absurd (false≢true (rw (chosen_none op) at c))

pub after-combined : (op x : ℕ) (k l : Words) → Plain k → Plain l → after x (combined op k l) ≡ combined op (after x k) (after x l)
after-combined op x k l p q =
    plain-ext (after x (combined op k l)) _ (plain-after x _ (plain-combined op k l p q))
    (plain-combined op (after x k) (after x l) (plain-after x k p) (plain-after x l q))
    (λ w spelled. rw (member-after, member-combined op (x ∷ w) k l, member-combined op w (after x k) (after x l))
    (rw (member-after x w k, member-after x w l)))

-- a list where wanted, or none
member-or-none : (wanted : Bool) (w : Word) (l : Words) → member w (cond wanted l []) ≡ (wanted && member w l)
unfolding member
member-or-none true w l = refl
member-or-none false w l = refl

plain-or-none : (wanted : Bool) (l : Words) → Plain l → Plain (cond wanted l [])
plain-or-none true l p = p
plain-or-none false l p = record { rising = tt; spelled = tt }

-- of a list and itself, or of one and none
pub combined-or-none : (op : ℕ) (a b : Bool) (l : Words) → Plain l → combined op (cond a l []) (cond b l []) ≡ cond (chosen op a b) l []
combined-or-none op a b l p =
    plain-ext (combined op (cond a l []) (cond b l [])) _ (plain-combined op _ _ (plain-or-none a l p) (plain-or-none b l p))
    (plain-or-none (chosen op a b) l p)
    (λ w spelled. member-combined op w (cond a l []) (cond b l [])
    ∙ rw (member-or-none a w l, member-or-none b w l, member-or-none (chosen op a b) w l) (chosen-where op a b (member w l)))
