-- The forty numbers of a row by their names: what holds of the mark, the height, the targets and the last number holds of all of them, where
-- two tables have the same forty these are the same, and in a free row of a tidy table each of these is 0. With these laws nobody above has to
-- know where a number stands. Assumes nothing.
use Prim.Native.Nat.{ℕ, ◌+◌, ◌-◌, ◌*◌, ◌<◌}
use native.Mathlib.Omega.{arith}
use native.Mathlib.Nat.{add-zero}
use native.Mathlib.Decide.{ℕ_discrete}
use mathlib.Core.Path.{◌≡◌}
use mathlib.Core.Bool.{true}
use lib.ListN.{get_or}
use Rattle.letters.specs.Letters.{letters}
use Rattle.rows.specs.Table.{Table, width, is_row, mark, height, target, number39}
use Rattle.rows.specs.Tidy.{Tidy}
use Rattle.rows.proofs.Facts.{row_inside}

pub forty : (t : Table) (r : ℕ) (P : ℕ → Type 0) → P (mark t r) → P (height t r) → ((x : ℕ) → x < letters → P (target t r x)) → P (number39 t r)
    → (i : ℕ) → i < width → P (get_or t (r * width + i) 0)
forty t r P m h ts l i below =
    elim (ℕ_discrete i 0) [
      | yes e ↦ rw (e, add-zero) m
      | no none ↦ elim (ℕ_discrete i 1) [
        | yes e ↦ rw e h
        | no one ↦ elim (ℕ_discrete i 39) [
          | yes e ↦ rw e l
          | no end ↦ let e : r * width + i ≡ r * width + 2 + (i - 2) = omega arith in rw e (ts (i - 2) (omega arith))
        ]
      ]
    ]

-- row r is the same in both tables
module _ (t u : Table) (r : ℕ) (same : (i : ℕ) → i < width → get_or u (r * width + i) 0 ≡ get_or t (r * width + i) 0) where
  pub same-mark : mark u r ≡ mark t r
  same-mark = rw add-zero at (same 0 (omega arith))

  pub same-height : height u r ≡ height t r
  same-height = same 1 (omega arith)

  pub same_target : (x : ℕ) → x < letters → target u r x ≡ target t r x
  same_target x h = let e : r * width + 2 + x ≡ r * width + (2 + x) = omega arith in rw e (same (2 + x) (omega arith))

  pub same-number39 : number39 u r ≡ number39 t r
  same-number39 = same 39 (omega arith)

-- "a free row is forty zeros"
module _ (t : Table) (tidy : Tidy t) (r : ℕ) (row : is_row t r ≡ true) (e : mark t r ≡ 0) where
  free-cell : (i : ℕ) → i < width → get_or t (r * width + i) 0 ≡ 0
  free-cell i h = let (positive, inside) = row_inside t r row in tidy.zeros r i positive inside e h

  pub free-height : height t r ≡ 0
  free-height = free-cell 1 (omega arith)

  pub free-target : (x : ℕ) → x < letters → target t r x ≡ 0
  free-target x h =
      let same : r * width + 2 + x ≡ r * width + (2 + x) = omega arith in
      rw same (free-cell (2 + x) (omega arith))

  pub free-number39 : number39 t r ≡ 0
  free-number39 = free-cell 39 (omega arith)
