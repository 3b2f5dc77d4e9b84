-- What eight zeros say of the numbers, how zeros add up, and what is kept past them. Assumes nothing.
use Prim.Native.Nat.{ℕ, zero, suc, ◌+◌, ◌-◌, ◌≤◌, ◌<◌}
use mathlib.Core.Path.{◌≡◌, refl, sym, ◌∙◌}
use mathlib.Core.Bool.{Bool, true, false, ◌&&◌, and-eq-true_iff}
use mathlib.Core.Logic.{◌⊎◌, inl, inr}
use mathlib.Core.List.{List}
use native.Mathlib.Decide.{ℕ_discrete}
use native.Mathlib.Omega.{arith}
use borrow.Author.Tests.{eq-eqb, ne_eqb, eqb-true, ltb-true, ltb-false}
use lib.Bits.{bit_or, or_add_and, and_le_l, and_le_r}
use lib.Dec.{eqb, ltb}
use lib.ListN.{get_or}
use lib.Seq.{get_or-take, get_or-drop}
use Rattle.letters.specs.Letters.{letters}
use Rattle.letters.proofs.Below.{all-below}
use Rattle.sets.proofs.Membership.{fails}
use Rattle.rows.specs.Table.{Table, target, row_targets}
use Rattle.rows.specs.Skips.{eight_zeros, Zeros, Skipped, NextArc}

-- the bits of both are none exactly if neither has any
pub or-none : (a b : ℕ) → eqb (bit_or a b) 0 ≡ (eqb a 0 && eqb b 0)
or-none a b =
    elim (ℕ_discrete (bit_or a b) 0) [
      | yes e ↦
          let none-a : a ≡ 0 = omega (arith, or_add_and a b, and_le_l a b, and_le_r a b) in
          let none-b : b ≡ 0 = omega (arith, or_add_and a b, and_le_l a b, and_le_r a b) in
          rw (eq-eqb (bit_or a b) 0 e, eq-eqb a 0 none-a, eq-eqb b 0 none-b)
      | no e ↦ rw (ne_eqb (bit_or a b) 0 e) (sym (fails (eqb a 0 && eqb b 0) (λ d.
          let (f, g) = (and-eq-true_iff (eqb a 0) (eqb b 0)).0 d in
          e (rw (eqb-true a 0 f) (eqb-true b 0 g)))))
    ]

pub lower-or-not : (q r : ℕ) → (q < r) ⊎ (r ≤ q)
lower-or-not q r = go (ltb q r) refl
  where
    go : (b : Bool) → ltb q r ≡ b → (q < r) ⊎ (r ≤ q)
    go true e = inl (ltb-true q r e)
    go false e = inr (ltb-false q r e)

module _ {s : List ℕ} where
  pub zeros-none : (a : ℕ) → Zeros s a a
  zeros-none a = record { from = omega arith; zeros = λ i h k. absurd (omega arith) }

  pub zeros-both : {a b e : ℕ} → Zeros s a b → Zeros s b e → Zeros s a e
  zeros-both {a} {b} {e} one two =
      record {
        from = omega (arith, one.from, two.from);
        zeros = λ i h k. elim (lower-or-not i b) [ inl low ↦ one.zeros i h low | inr up ↦ two.zeros i up k ];
      }

  pub zeros-eight : (a : ℕ) → eight_zeros s a ≡ true → Zeros s a (a + 8)
  zeros-eight a e =
      record {
        from = omega arith;
        zeros = λ i h k.
            let place : i ≡ a + (i - a) = omega arith in
            rw place (eqb-true (get_or s (a + (i - a)) 0) 0 (all-below _ 8 e (i - a) (omega arith)));
      }

  pub skipped-both : {a b end e : ℕ} → Zeros s a b → Skipped s b end e → Skipped s a end e
  skipped-both one two = record { before = zeros-both one two.before; to = two.to; stops = two.stops }

-- what a 0 keeps is kept past all of them
pub past : (given : ℕ → ℕ) (P : ℕ → Type 0) → ((i : ℕ) → given i ≡ 0 → P i → P (suc i)) → (a e : ℕ) → a ≤ e
    → ((i : ℕ) → a ≤ i → i < e → given i ≡ 0) → P a → P e
past given P step a zero low none p = let d : a ≡ 0 = omega arith in rw d at p
past given P step a (suc e) low none p =
    elim (ℕ_discrete a (suc e)) [
      | yes d ↦ rw d at p
      | no d ↦ step e (none e (omega arith) (omega arith)) (past given P step a e (omega arith) (λ i h k. none i h (omega arith)) p)
    ]

module _ (t : Table) (r : ℕ) where
  -- the targets of a row, taken out of the table
  pub row_target : (x : ℕ) → x < letters → get_or (row_targets t r) x 0 ≡ target t r x
  row_target x h = rw (get_or-take, get_or-drop)

  pub skipped-arc : (x e : ℕ) → Skipped (row_targets t r) x letters e → NextArc t r x e
  skipped-arc x e d =
      record {
        from = d.before.from;
        to = d.to;
        none = λ y h k. sym (row_target y (omega (arith, d.to))) ∙ d.before.zeros y h k;
        stops = λ h. rw (row_target e h) at d.stops h;
      }
