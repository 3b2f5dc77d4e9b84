-- The tests of one row and the facts of one row say the same. In a tidy table a target is 0 or a row in use, and lower than the row that has
-- it; so what holds of a row wherever it holds of the row's targets holds of every row in use: the recursion is on a bound of the height.
-- Assumes nothing.
use Prim.Native.Nat.{ℕ, zero, suc, ◌<◌}
use native.Mathlib.Omega.{arith}
use native.Mathlib.Decide.{ℕ_discrete}
use mathlib.Core.Path.{◌≡◌}
use mathlib.Core.Logic.{◌⊎◌, inl, inr}
use mathlib.Core.Bool.{true, false, and-eq-true_iff}
use lib.Dec.{ltb}
use lib.ListN.{length}
use borrow.Author.Tests.{ltb-true, lt-ltb, ne_eqb}
use Rattle.letters.specs.Letters.{letters}
use Rattle.rows.specs.Table.{Table, row_count, is_row, mark, height, target, in_use}
use Rattle.rows.specs.Rules.{above}
use Rattle.rows.specs.Tidy.{Used, Named, Arc, Tidy}

pub row_inside : (t : Table) (r : ℕ) → is_row t r ≡ true → (0 < r) × (r < row_count t)
row_inside t r e =
    let (some, below) = (and-eq-true_iff (ltb 0 r) (ltb r (row_count t))).0 e in
    (ltb-true 0 r some, ltb-true r (row_count t) below)

pub inside-row : (t : Table) (r : ℕ) → 0 < r → r < row_count t → is_row t r ≡ true
inside-row t r some below = rw (lt-ltb 0 r some, lt-ltb r (row_count t) below)

pub no_row : (t : Table) (n : ℕ) → n ≡ 0 → is_row t n ≡ false
no_row t n e = rw e

pub used-row : {t : Table} {r : ℕ} → Used t r → is_row t r ≡ true
used-row {t} {r} u = inside-row t r u.positive u.inside

pub used-same : {t u : Table} {r : ℕ} → length u ≡ length t → mark u r ≡ mark t r → Used t r → Used u r
used-same long same p = record { positive = p.positive; inside = rw long p.inside; marked = rw same p.marked }

pub in-use-used : (t : Table) (r : ℕ) → in_use t r ≡ true → Used t r
in-use-used t r e =
    let (row, some) = (and-eq-true_iff (is_row t r) (ltb 0 (mark t r))).0 e in
    let (positive, inside) = row_inside t r row in
    record { positive = positive; inside = inside; marked = ltb-true 0 (mark t r) some }

pub used-in-use : {t : Table} {r : ℕ} → Used t r → in_use t r ≡ true
used-in-use {t} {r} u = rw (used-row u, lt-ltb 0 (mark t r) u.marked)

pub named-row : {t : Table} {n : ℕ} → Named t n → is_row t n ≡ true → Used t n
named-row {t} {n} named e = named (row_inside t n e).0

pub named-cases : {t : Table} {n : ℕ} → Named t n → Used t n ⊎ (n ≡ 0)
named-cases {n} named = elim (ℕ_discrete n 0) [ yes e ↦ inr e | no e ↦ inl (named (omega arith)) ]

module _ (t : Table) (tidy : Tidy t) where
  pub named-inside : (n : ℕ) → Named t n → n < row_count t
  named-inside n named = elim (named-cases named) [ inl u ↦ u.inside | inr e ↦ omega (arith, tidy.least) ]

  pub target-named : (r x : ℕ) → Used t r → x < letters → Named t (target t r x)
  target-named r x u h there = tidy.targets r x (record { used = u; letter = h; there = there })

  pub target-lower : (r x : ℕ) → Used t r → x < letters → Used t (target t r x) → height t (target t r x) < height t r
  target-lower r x u h v = tidy.lower r x (record { used = u; letter = h; there = v.positive })

  -- what a target asks of the height is less than what its row asks
  pub target_below : (r x : ℕ) → Used t r → x < letters → above t (target t r x) < above t r
  target_below r x used h =
      rw (ne_eqb r 0 (λ e. omega (arith, used.positive)))
      (elim (named-cases (target-named r x used h)) [
        | inl v ↦ rw (ne_eqb (target t r x) 0 (λ e. omega (arith, v.positive))) (omega (arith, target-lower r x used h v))
        | inr e ↦ rw e (omega arith)
      ])

  pub by_height : (P : ℕ → Type 0) → ((r : ℕ) → Used t r → ((x : ℕ) → Arc t r x → P (target t r x)) → P r) → (r : ℕ) → Used t r → P r
  by_height P step r u = go (suc (height t r)) r u (omega arith)
    where
      go : (bound r : ℕ) → Used t r → height t r < bound → P r
      go zero r u h = absurd (omega arith)
      go (suc bound) r u h = step r u (λ x a. go bound (target t r x) (tidy.targets r x a) (omega (arith, tidy.lower r x a)))
