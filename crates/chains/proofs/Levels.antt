-- What the order of the rows tells: a row of a kind above 0 is in use and its height is one below the kind, and so the other way round. The
-- heights of a tidy table are small enough to be kinds. Assumes nothing.
use Prim.Native.Nat.{ℕ, suc, ◌+◌, ◌≤◌, ◌<◌}
use native.Mathlib.Omega.{arith}
use mathlib.Core.Path.{◌≡◌, refl, ◌∙◌, ap}
use mathlib.Core.Bool.{Bool, true, false}
use mathlib.Core.List.{List}
use lib.ListN.{get_or}
use Rattle.letters.specs.Names.{longest}
use Rattle.rows.specs.Table.{Table, row_count, height, in_use}
use Rattle.rows.specs.Tidy.{Used, Tidy}
use Rattle.rows.proofs.Facts.{in-use-used, used-in-use}
use Rattle.chains.specs.Chains.{Latest}
use Rattle.chains.specs.Orders.{level, levels, Ordered}

pub used-level : {t : Table} {r : ℕ} → Used t r → level t r ≡ suc (height t r)
used-level u = rw (used-in-use u)

level-used : (t : Table) (r h : ℕ) → level t r ≡ suc h → Used t r × (height t r ≡ h)
level-used t r h e = go (in_use t r) refl
  where
    go : (b : Bool) → in_use t r ≡ b → Used t r × (height t r ≡ h)
    go true used = let u = in-use-used t r used in (u, omega (arith, used-level u))
    go false free = let none : level t r ≡ 0 = rw free in absurd (omega arith)

pub level-small : {t : Table} → Tidy t → (r : ℕ) → level t r < levels
level-small {t} tidy r = go (in_use t r) refl
  where
    go : (b : Bool) → in_use t r ≡ b → level t r < levels
    go true used = let u = in-use-used t r used in omega (arith, used-level u, tidy.low r u)
    go false free = rw free (omega arith)

-- the last row at a height
pub last-latest : (t : Table) (order : List ℕ) → Ordered t order → (h : ℕ) → h ≤ longest
    → Latest (λ r. level t r) (suc h) (row_count t) (get_or order (suc h) 0)
last-latest t order o h low = o.lasts (suc h) (omega arith)

-- it is in use and of this height, and the row before it in the order is the last one before it
pub latest-row : {t : Table} {h n r : ℕ} → Latest (λ s. level t s) (suc h) n r → 0 < r → Used t r × (height t r ≡ h)
latest-row {t} {h} {r} latest some = level-used t r h (latest.there some)

pub before-latest : {t : Table} {order : List ℕ} {h r : ℕ} → Ordered t order → Used t r → height t r ≡ h
    → Latest (λ s. level t s) (suc h) r (get_or order (levels + r) 0)
before-latest {r} ordered u e = rw (used-level u ∙ ap suc e) at (ordered.links r u.positive u.inside)
