-- The laws of plain sets. What each operation does is said by one membership law, and these hold for all lists. That a list rises, or is
-- of letters, is a fact about each of its words: `member-..` reads it off a word, `members-..` puts it together, so that the operations keep
-- it by their membership laws. Only `ext` needs lists that rise: the first words of two such lists with the same words are the same, since a
-- word before the first one is not in the list. Whoever speaks of names, of residuals or of automata goes by these laws. Assumes nothing.
use Prim.Native.Nat.{suc, ◌+◌, ◌≤◌, Ordering}
use native.Mathlib.Omega.{arith}
use mathlib.Core.Path.{◌≡◌, refl}
use mathlib.Core.Bool.{Bool, true, false, not, cond, ◌&&◌, ◌||◌, false≢true}
use mathlib.Core.Bool.{or-true, or_assoc, or_self_left, and-false, and_comm, and-or_distrib_left, and-eq-true_iff}
use mathlib.Core.List.{[], ◌∷◌, ◌++◌}
use lib.ListN.{length}
use Rattle.letters.specs.Each.{Each}
use Rattle.letters.specs.Words.{Word, Spelled, order, before, same}
use Rattle.letters.specs.Lists.{rises}
use Rattle.letters.proofs.Ordering.{order-eq, same_refl, same-eq, before-not-same, after-before, before-trans}
use Rattle.sets.specs.Sets.{Words, member, Above, Rising, Plain, keep, put, insert, delete, both, common, without}
use Rattle.sets.proofs.Membership.{each_append}

-- a word in front where a test passes: a step of `keep`, and of `after`
pub member-cond : (b : Bool) (u v : Word) (l : Words) → member u (cond b (v ∷ l) l) ≡ (b && same u v || member u l)
unfolding member
member-cond true u v l = refl
member-cond false u v l = refl

-- a test says the same of the same words
same_test : (test : Word → Bool) (u v : Word) → (test v && same u v) ≡ (test u && same u v)
same_test test u v = go (same u v) refl
  where
    go : (b : Bool) → same u v ≡ b → (test v && b) ≡ (test u && b)
    go true e = rw (same-eq u v e)
    go false e = simp and-false

pub member-keep : (test : Word → Bool) (u : Word) (l : Words) → member u (keep test l) ≡ (test u && member u l)
unfolding member keep
member-keep test u [] = rw and-false
member-keep test u (v ∷ vs) = rw (member-cond, member-keep test u vs, same_test test u v, ← and-or_distrib_left)

pub or_swap : (a b c : Bool) → (a || (b || c)) ≡ (b || (a || c))
or_swap true b c = rw or-true
or_swap false b c = refl

pub member-insert : (u w : Word) (l : Words) → member u (insert w l) ≡ (same u w || member u l)
unfolding member insert
member-insert u w [] = refl
member-insert u w (v ∷ vs) = go (member-insert u w vs) (order w v) refl
  where
    go : (member u (insert w vs) ≡ (same u w || member u vs)) → (o : Ordering) → order w v ≡ o
        → member u (put o w v vs (insert w vs)) ≡ (same u w || (same u v || member u vs))
    go rest Ordering.lt e = refl
    go rest Ordering.eq e = rw (order-eq w v e, or_self_left)
    go rest Ordering.gt e = rw rest (or_swap (same u v) (same u w) (member u vs))

pub member-delete : (u w : Word) (l : Words) → member u (delete w l) ≡ (not (same u w) && member u l)
unfolding delete
member-delete u w l = rw member-keep

pub member-both : (u : Word) (k l : Words) → member u (both k l) ≡ (member u k || member u l)
unfolding member both
member-both u [] l = refl
member-both u (v ∷ vs) l = rw (member-insert, member-both u vs l, or_assoc)

pub member-common : (u : Word) (k l : Words) → member u (common k l) ≡ (member u k && member u l)
unfolding common
member-common u k l = rw member-keep (and_comm (member u l) (member u k))

pub member-without : (u : Word) (k l : Words) → member u (without k l) ≡ (member u k && not (member u l))
unfolding without
member-without u k l = rw member-keep (and_comm (not (member u l)) (member u k))

pub member-append : (u : Word) (k l : Words) → member u (k ++ l) ≡ (member u k || member u l)
unfolding member
member-append u [] l = refl
member-append u (v ∷ vs) l = rw (member-append u vs l, or_assoc)

-- what holds of w, and of u where b, holds of u where u is w or b
same_or : (P : Word → Type 0) (u w : Word) (b : Bool) → (same u w || b) ≡ true → P w → (b ≡ true → P u) → P u
same_or P u w b m h f = go (same u w) refl m
  where
    go : (c : Bool) → same u w ≡ c → (c || b) ≡ true → P u
    go true e m = rw (same-eq u w e) h
    go false e m = f m

-- what is said of each word of a list, and of each of its members
pub member-each : (P : Word → Type 0) (l : Words) → Each P l → (u : Word) → member u l ≡ true → P u
unfolding member
member-each P [] h u m = absurd (false≢true m)
member-each P (v ∷ vs) h u m = same_or P u v (member u vs) m h.0 (member-each P vs h.1 u)

pub members-each : (P : Word → Type 0) (l : Words) → ((u : Word) → member u l ≡ true → P u) → Each P l
unfolding member
members-each P [] f = tt
members-each P (v ∷ vs) f = (f v (rw same_refl), members-each P vs (λ u m. f u (rw (m, or-true))))

pub no-members : (l : Words) → ((u : Word) → member u l ≡ true → ⊥) → l ≡ []
unfolding member
no-members [] none = refl
no-members (v ∷ vs) none = absurd (none v (rw same_refl))

pub member-above : (w : Word) (l : Words) → Above w l → (u : Word) → member u l ≡ true → before w u ≡ true
member-above w l = member-each (λ u. before w u ≡ true) l

pub members-above : (w : Word) (l : Words) → ((u : Word) → member u l ≡ true → before w u ≡ true) → Above w l
members-above w l = members-each (λ u. before w u ≡ true) l

-- what is kept was there
kept : (test : Word → Bool) (u : Word) (l : Words) → member u (keep test l) ≡ true → member u l ≡ true
kept test u l m = ((and-eq-true_iff (test u) (member u l)).0 (rw member-keep at m)).1

-- what holds of w and of each word of l holds of each word of both
inserted : (P : Word → Type 0) (w : Word) (l : Words) → P w → ((u : Word) → member u l ≡ true → P u)
    → (u : Word) → member u (insert w l) ≡ true → P u
inserted P w l h f u m = same_or P u w (member u l) (rw member-insert at m) h (f u)

-- lists that rise
pub above-rising : (w v : Word) (vs : Words) → before w v ≡ true → Rising (v ∷ vs) → Above w (v ∷ vs)
above-rising w v vs b r = (b, members-above w vs (λ u m. before-trans w v u b (member-above v vs r.0 u m)))

pub rises-rising : (l : Words) → rises l ≡ true → Rising l
unfolding rises
rises-rising [] h = tt
rises-rising (u ∷ []) h = (tt, tt)
rises-rising (u ∷ v ∷ ws) h =
    let p = (and-eq-true_iff (before u v) (rises (v ∷ ws))).0 h in
    let r = rises-rising (v ∷ ws) p.1 in
    (above-rising u v ws p.0 r, r)

pub rising-rises : (l : Words) → Rising l → rises l ≡ true
unfolding rises
rising-rises [] r = refl
rising-rises (u ∷ []) r = refl
rising-rises (u ∷ v ∷ ws) r = rw (r.0.0, rising-rises (v ∷ ws) r.1)

pub rising-cond : (b : Bool) (v : Word) (l : Words) → (b ≡ true → Above v l) → Rising l → Rising (cond b (v ∷ l) l)
rising-cond true v l h r = (h refl, r)
rising-cond false v l h r = r

above-keep : (test : Word → Bool) (w : Word) (l : Words) → Above w l → Above w (keep test l)
above-keep test w l h = members-above w (keep test l) (λ u m. member-above w l h u (kept test u l m))

rising-keep : (test : Word → Bool) (l : Words) → Rising l → Rising (keep test l)
unfolding keep
rising-keep test [] r = tt
rising-keep test (v ∷ vs) r = rising-cond (test v) v (keep test vs) (λ e. above-keep test v vs r.0) (rising-keep test vs r.1)

above-insert : (v w : Word) (l : Words) → before v w ≡ true → Above v l → Above v (insert w l)
above-insert v w l b h = members-above v (insert w l) (inserted (λ u. before v u ≡ true) w l b (member-above v l h))

rising-insert : (w : Word) (l : Words) → Rising l → Rising (insert w l)
unfolding insert
rising-insert w [] r = (tt, tt)
rising-insert w (v ∷ vs) r = go (rising-insert w vs r.1) (order w v) refl
  where
    go : Rising (insert w vs) → (o : Ordering) → order w v ≡ o → Rising (put o w v vs (insert w vs))
    go rest Ordering.lt e = (above-rising w v vs (rw e) r, r)
    go rest Ordering.eq e = r
    go rest Ordering.gt e = (above-insert v w vs (after-before w v e) r.0, rest)

pub rising-both : (k l : Words) → Rising l → Rising (both k l)
unfolding both
rising-both [] l r = r
rising-both (v ∷ vs) l r = rising-insert v (both vs l) (rising-both vs l r)

-- one list behind another
pub rising-append : (k l : Words) → Rising k → Rising l → ((u v : Word) → member u k ≡ true → member v l ≡ true → before u v ≡ true)
    → Rising (k ++ l)
unfolding member
rising-append [] l r s f = s
rising-append (w ∷ ws) l r s f =
    (each_append _ ws l r.0 (members-above w l (λ v. f w v (rw same_refl))), rising-append ws l r.1 s (λ u v m. f u v (rw (m, or-true))))

-- sets with the same words
pub above-absent : (w : Word) (l : Words) → Above w l → member w l ≡ false
unfolding member
above-absent w [] h = refl
above-absent w (v ∷ vs) h = rw (before-not-same w v h.0) (above-absent w vs h.1)

pub ext : (k l : Words) → Rising k → Rising l → ((w : Word) → member w k ≡ member w l) → k ≡ l
unfolding member
ext [] [] r s f = refl
ext [] (v ∷ vs) r s f = cc (f v, same_refl v)
ext (w ∷ ws) [] r s f = cc (f w, same_refl w)
ext (w ∷ ws) (v ∷ vs) r s f = go (ext ws vs r.1 s.1) (order w v) refl
  where
    rests : w ≡ v → (u : Word) (b : Bool) → same u w ≡ b → member u ws ≡ member u vs
    rests e u true h = cc (same-eq u w h, above-absent w ws r.0, above-absent v vs s.0)
    rests e u false h = cc (f u)

    go : (((u : Word) → member u ws ≡ member u vs) → ws ≡ vs) → (o : Ordering) → order w v ≡ o → w ∷ ws ≡ v ∷ vs
    go rest Ordering.lt e = cc (f w, same_refl w, above-absent w (v ∷ vs) (above-rising w v vs (rw e) s))
    go rest Ordering.eq e = cc (order-eq w v e, rest (λ u. rests (order-eq w v e) u (same u w) refl))
    go rest Ordering.gt e = cc (f v, same_refl v, above-absent v (w ∷ ws) (above-rising v w ws (after-before w v e) r))

pub plain-ext : (k l : Words) → Plain k → Plain l → ((w : Word) → Spelled w → member w k ≡ member w l) → k ≡ l
plain-ext k l p q f = ext k l p.rising q.rising (λ w. go w (member w k) (member w l) refl refl)
  where
    go : (w : Word) (b c : Bool) → member w k ≡ b → member w l ≡ c → member w k ≡ member w l
    go w true c e h = f w (member-each Spelled k p.spelled w e)
    go w false true e h = f w (member-each Spelled l q.spelled w h)
    go w false false e h = cc

-- the operations make plain sets of plain sets
plain-keep : (test : Word → Bool) (l : Words) → Plain l → Plain (keep test l)
plain-keep test l p = record {
  rising = rising-keep test l p.rising;
  spelled = members-each Spelled (keep test l) (λ u m. member-each Spelled l p.spelled u (kept test u l m));
}

pub plain-insert : (w : Word) (l : Words) → Spelled w → Plain l → Plain (insert w l)
plain-insert w l h p = record {
  rising = rising-insert w l p.rising;
  spelled = members-each Spelled (insert w l) (inserted Spelled w l h (member-each Spelled l p.spelled));
}

pub plain-delete : (w : Word) (l : Words) → Plain l → Plain (delete w l)
unfolding delete
plain-delete w l = plain-keep (λ v. not (same v w)) l

pub plain-both : (k l : Words) → Plain k → Plain l → Plain (both k l)
unfolding both
plain-both [] l p q = q
plain-both (v ∷ vs) l p q =
    plain-insert v (both vs l) p.spelled.0 (plain-both vs l (record { rising = p.rising.1; spelled = p.spelled.1 }) q)

-- no more words than both have
insert-few : (w : Word) (l : Words) → length (insert w l) ≤ suc (length l)
unfolding insert
insert-few w [] = omega arith
insert-few w (v ∷ vs) = go (insert-few w vs) (order w v)
  where
    go : length (insert w vs) ≤ suc (length vs) → (o : Ordering) → length (put o w v vs (insert w vs)) ≤ suc (suc (length vs))
    go few Ordering.lt = omega arith
    go few Ordering.eq = omega arith
    go few Ordering.gt = omega arith

pub both-few : (k l : Words) → length (both k l) ≤ length k + length l
unfolding both
both-few [] l = omega arith
both-few (v ∷ vs) l = omega (arith, insert-few v (both vs l), both-few vs l)

pub plain-common : (k l : Words) → Plain k → Plain (common k l)
unfolding common
plain-common k l = plain-keep (λ v. member v l) k

pub plain-without : (k l : Words) → Plain k → Plain (without k l)
unfolding without
plain-without k l = plain-keep (λ v. not (member v l)) k
