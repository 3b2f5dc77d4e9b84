-- "Number 1 is the height: the length of the longest word accepted from here." In a tidy table heights fall along arcs, so no accepted word is
-- longer. And a word of that length is accepted: a row of height 0 has no arc, so a name may end there; any other row has an arc to a row that
-- is lower by one, since by rule 3 its height is no more than its targets ask, and the letter goes before that row's longest word.
-- Assumes nothing.
use Prim.Native.Nat.{ℕ, suc, ◌-◌, ◌≤◌, ◌<◌}
use native.Mathlib.Omega.{arith}
use native.Mathlib.Decide.{ℕ_discrete, dec_lt}
use mathlib.Core.Path.{◌≡◌, refl, sym, ◌∙◌, ap}
use mathlib.Core.Logic.{inl, inr, ◌≢◌}
use mathlib.Core.Bool.{Bool, true, false, ◌&&◌, false≢true, and-eq-true_iff}
use mathlib.Core.List.{[], ◌∷◌}
use lib.Dec.{eqb, ltb}
use lib.ListN.{length}
use borrow.Author.Tests.{ltb-true, eqb-true, lt-ltb, eq-eqb}
use Rattle.letters.specs.Letters.{letters}
use Rattle.letters.specs.Words.{Word, Spelled}
use Rattle.sets.specs.Below.{some_below}
use Rattle.sets.proofs.Below.{some_below_lem, below-some}
use Rattle.rows.specs.Table.{Table, mark, height, target}
use Rattle.rows.specs.Walk.{accepts, Longest}
use Rattle.rows.specs.Tidy.{Used, Arc, Tidy}
use Rattle.rows.proofs.Facts.{no_row, used-row, named-cases, target-named, target-lower, by_height}
use Rattle.rows.proofs.Walk.{none-accepted, accepts-empty, accepts-step}

module _ (t : Table) (tidy : Tidy t) where
  accepted-short : (w : Word) → Spelled w → (r : ℕ) → Used t r → accepts t w r ≡ true → length w ≤ height t r
  accepted-short [] s r u e = omega arith
  accepted-short (x ∷ w) s r u e =
      let rest : accepts t w (target t r x) ≡ true = sym (accepts-step t r (used-row u) x w) ∙ e in
      elim (named-cases (target-named t tidy r x u s.0)) [
        | inl v ↦ omega (arith, accepted-short w s.1 (target t r x) v rest, target-lower t tidy r x u s.0 v)
        | inr d ↦ absurd (false≢true (sym (none-accepted t (target t r x) (no_row t (target t r x) d) w) ∙ rest))
      ]

  -- the height is "one more than the greatest height among its targets": the letter of such a target
  abbrev highest : ℕ → ℕ → Bool
  highest r x = ltb 0 (target t r x) && eqb (height t r) (suc (height t (target t r x)))

  highest-arc : (r : ℕ) → Used t r → 0 < height t r → (x : ℕ) × Arc t r x × (height t r ≡ suc (height t (target t r x)))
  highest-arc r u some = go (some_below letters (highest r)) refl
    where
      go : (b : Bool) → some_below letters (highest r) ≡ b → (x : ℕ) × Arc t r x × (height t r ≡ suc (height t (target t r x)))
      go true e =
          let (x, h, d) = some_below_lem (highest r) letters e in
          let (there, one) = (and-eq-true_iff (ltb 0 (target t r x)) _).0 d in
          (x, record { used = u; letter = h; there = ltb-true 0 (target t r x) there }, eqb-true (height t r) _ one)
      go false e = absurd (omega (arith, tidy.tight r (height t r - 1) u lower))
        where
          none : (x : ℕ) → Arc t r x → height t r ≢ suc (height t (target t r x))
          none x a d = false≢true (sym e ∙ below-some (highest r) letters x a.letter (rw (lt-ltb 0 (target t r x) a.there) (eq-eqb (height t r) _ d)))

          lower : (x : ℕ) → Arc t r x → height t (target t r x) < height t r - 1
          lower x a = omega (arith, tidy.lower r x a, none x a)

  -- a row of height 0 has no arc, so it has not mark 1
  lowest-ends : (r : ℕ) → Used t r → height t r ≡ 0 → mark t r ≡ 2
  lowest-ends r u e =
      elim (ℕ_discrete (mark t r) 2) [
        | yes d ↦ d
        | no d ↦
            let (x, a) = tidy.arc r u (omega (arith, u.marked, tidy.marks r u)) in
            absurd (omega (arith, tidy.lower r x a))
      ]

  pub height-longest : (r : ℕ) → Used t r → Longest t r (height t r)
  height-longest = by_height t tidy (λ r. Longest t r (height t r)) step
    where
      step : (r : ℕ) → Used t r → ((x : ℕ) → Arc t r x → Longest t (target t r x) (height t (target t r x))) → Longest t r (height t r)
      step r u below =
          elim (dec_lt 0 (height t r)) [
            | yes h ↦
                let (x, a, e) = highest-arc r u h in
                let rest = below x a in
                record {
                  none_longer = λ w s. accepted-short w s r u;
                  word = x ∷ rest.word;
                  spelled = (a.letter, rest.spelled);
                  accepted = accepts-step t r (used-row u) x rest.word ∙ rest.accepted;
                  long = ap suc rest.long ∙ sym e;
                }
            | no h ↦
                record {
                  none_longer = λ w s. accepted-short w s r u;
                  word = [];
                  spelled = tt;
                  accepted = accepts-empty t r ∙ rw (used-row u, eq-eqb (mark t r) 2 (lowest-ends r u (omega arith)));
                  long = omega arith;
                }
          ]
