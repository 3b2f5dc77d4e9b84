-- Rows in chains, one for each kind of row: what an array says in which number `kind` is the last row of that kind, and number `kinds + r` the
-- row before r of r's kind; 0 for none. The numbers in a chain fall, so it ends. Assumes nothing.
use Rattle.std.specs.Prelude.{ℕ, ◌+◌, ◌≤◌, ◌<◌, ◌≡◌, List, length, get_or, set}
use Rattle.rows.specs.Table.{most_rows}

-- r is the last row before n of this kind, or 0 if there is none
pub record Latest (of : ℕ → ℕ) (kind n r : ℕ) : Type 0 where
  pub below : r < n
  pub there : 0 < r → of r ≡ kind
  pub none : (q : ℕ) → r < q → q < n → of q ≡ kind → ⊥

-- the rows before n are chained, each by its kind
pub record Chained (kinds : ℕ) (of : ℕ → ℕ) (n : ℕ) (chains : List ℕ) : Type 0 where
  pub long : kinds + most_rows ≤ length chains
  pub most : n ≤ most_rows
  pub lasts : (kind : ℕ) → kind < kinds → Latest of kind n (get_or chains kind 0)
  pub links : (q : ℕ) → 0 < q → q < n → Latest of (of q) q (get_or chains (kinds + q) 0)

-- the array with row r as the last of its kind
abbrev pub linked : List ℕ → ℕ → ℕ → ℕ → List ℕ
linked chains kinds kind r = set (set chains (kinds + r) (get_or chains kind 0)) kind r
