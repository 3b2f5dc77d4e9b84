-- The rows reached from a number of a tidy table are the least that hold the number's row and, with a row, its targets. So what holds of the
-- number's row and goes over along arcs holds of every row reached. The fuel is enough, because heights fall along arcs. What is reached from
-- several roots is reached from one of them. Assumes nothing.
use Prim.Native.Nat.{ℕ, zero, suc, ◌<◌}
use native.Mathlib.Omega.{arith}
use mathlib.Core.Path.{◌≡◌, refl}
use mathlib.Core.Logic.{◌⊎◌, inl, inr}
use mathlib.Core.Bool.{true, false≢true, or-true, and-eq-true_iff}
use mathlib.Core.List.{List}
use lib.Dec.{eqb}
use borrow.Author.Tests.{eqb-true, eq-eqb}
use Rattle.letters.specs.Each.{Each}
use Rattle.letters.specs.Letters.{letters}
use Rattle.sets.proofs.Membership.{either, In, each_in, some_in, in_some}
use Rattle.sets.proofs.Below.{some_below_lem, below-some}
use Rattle.rows.specs.Table.{Table, is_row, height, target}
use Rattle.rows.specs.Tidy.{Used, Named, Arc, Tidy}
use Rattle.rows.specs.Reach.{reaches_in, reaches, reached_from}
use Rattle.rows.proofs.Facts.{used-row, named-row, target-named, target-lower}

module _ (t : Table) where
  -- the first step of a way
  reaches_step : (most n s : ℕ) → Named t n → reaches_in (suc most) t n s ≡ true
      → Used t n × ((n ≡ s) ⊎ ((x : ℕ) × (x < letters) × (reaches_in most t (target t n x) s ≡ true)))
  unfolding reaches_in
  reaches_step most n s named e =
      let (row, way) = (and-eq-true_iff (is_row t n) _).0 e in (
        named-row named row,
        elim (either (eqb n s) _ way) [ inl d ↦ inl (eqb-true n s d) | inr g ↦ inr (some_below_lem _ letters g) ],
      )

  here-reached : (most r : ℕ) → Used t r → 0 < most → reaches_in most t r r ≡ true
  unfolding reaches_in
  here-reached zero r u h = absurd (omega arith)
  here-reached (suc most) r u h = rw (used-row u, eq-eqb r r refl)

  further-reached : (most r x s : ℕ) → Used t r → x < letters → reaches_in most t (target t r x) s ≡ true → reaches_in (suc most) t r s ≡ true
  unfolding reaches_in
  further-reached most r x s u h e = rw (used-row u, below-some (λ x. reaches_in most t (target t r x) s) letters x h e, or-true)

  module _ (tidy : Tidy t) where
    arc-reached : (most n s x : ℕ) → Named t n → (Used t n → height t n < most) → reaches_in most t n s ≡ true → Arc t s x
        → reaches_in most t n (target t s x) ≡ true
    unfolding reaches_in
    arc-reached zero n s x named low e a = absurd (false≢true e)
    arc-reached (suc most) n s x named low e a =
        let (u, way) = reaches_step most n s named e in
        elim way [
          | inl d ↦
              let self = here-reached most (target t s x) (tidy.targets s x a) (omega (arith, low u, rw (← d) at (tidy.lower s x a))) in
              rw d (further-reached most s x (target t s x) a.used a.letter self)
          | inr rest ↦
              let (y, h, g) = rest in
              further-reached most n y (target t s x) u h
              (arc-reached most (target t n y) s x (target-named t tidy n y u h) (λ v. omega (arith, low u, target-lower t tidy n y u h v)) g a)
        ]

    reaches-self : (r : ℕ) → Used t r → reaches t r r ≡ true
    reaches-self r u = here-reached _ r u (omega arith)

    reaches-arc : (n s x : ℕ) → Named t n → reaches t n s ≡ true → Arc t s x → reaches t n (target t s x) ≡ true
    reaches-arc n s x named = arc-reached _ n s x named (λ u. omega (arith, tidy.low n u))

    module _ (P : ℕ → Type 0) (step : (s x : ℕ) → Arc t s x → P s → P (target t s x)) where
      all-reached : (most n : ℕ) → Named t n → (Used t n → P n) → (s : ℕ) → reaches_in most t n s ≡ true → P s
      unfolding reaches_in
      all-reached zero n named p s e = absurd (false≢true e)
      all-reached (suc most) n named p s e =
          let (u, way) = reaches_step most n s named e in
          elim way [
            | inl d ↦ rw d at (p u)
            | inr rest ↦
                let (x, h, g) = rest in
                all-reached most (target t n x) (target-named t tidy n x u h)
                (λ v. step n x (record { used = u; letter = h; there = v.positive }) (p u)) s g
          ]

      reaches_all : (n : ℕ) → Named t n → (Used t n → P n) → (s : ℕ) → reaches t n s ≡ true → P s
      reaches_all n = all-reached _ n

    module _ (roots : List ℕ) (named : Each (Named t) roots) where
      pub reached-root : (r : ℕ) → In r roots → Used t r → reached_from t roots r ≡ true
      reached-root r i u = in_some (λ n. reaches t n r) i (reaches-self r u)

      pub reached-arc : (s x : ℕ) → reached_from t roots s ≡ true → Arc t s x → reached_from t roots (target t s x) ≡ true
      reached-arc s x e a =
          let (n, i, d) = some_in (λ n. reaches t n s) roots e in
          in_some (λ n. reaches t n (target t s x)) i (reaches-arc n s x (each_in (Named t) named i) d a)

      pub reached-all : (P : ℕ → Type 0) → ((r : ℕ) → In r roots → Used t r → P r) → ((s x : ℕ) → Arc t s x → P s → P (target t s x))
          → (s : ℕ) → reached_from t roots s ≡ true → P s
      reached-all P root step s e =
          let (n, i, d) = some_in (λ n. reaches t n s) roots e in
          reaches_all P step n (each_in (Named t) named i) (root n i) s d

      pub reached-used : (s : ℕ) → reached_from t roots s ≡ true → Used t s
      reached-used = reached-all (λ r. Used t r) (λ r i u. u) (λ r x a u. tidy.targets r x a)
