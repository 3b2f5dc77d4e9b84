-- An array that marks rows: number r is not 0 where row r is marked. Number 0 stands for no row and says nothing. Assumes nothing.
use Rattle.std.specs.Prelude.{ℕ, ◌+◌, ◌*◌, ◌≤◌, ◌<◌, ◌≡◌, Bool, true, cond, ◌&&◌, ltb, length, get_or}
use mathlib.Core.List.{List, Memᴰ}
use Rattle.letters.specs.Each.{Each}
use Rattle.sets.specs.Below.{those}
use Rattle.rows.specs.Table.{Table, row_count, most_rows, is_row, height, target}
use Rattle.rows.specs.Tidy.{Used, Named, Arc}
use Rattle.rows.specs.Reach.{reached_from}

-- the array marks the row
abbrev pub marked : List ℕ → ℕ → Bool
marked keep r = ltb 0 (get_or keep r 0)

-- the array marks exactly the rows that pass the test
pub record Marks (t : Table) (test : ℕ → Bool) (keep : List ℕ) : Type 0 where
  pub long : row_count t ≤ length keep
  pub marks : (r : ℕ) → is_row t r ≡ true → marked keep r ≡ test r

-- the array after: 1 at the rows that pass the test, the others as before
pub record MarksMore (at : ℕ → Bool) (p q : List ℕ) : Type 0 where
  pub long : length q ≡ length p
  pub points : (s : ℕ) → 0 < s → get_or q s 0 ≡ cond (at s) 1 (get_or p s 0)

-- the rows that the array marks
abbrev pub roots_of : Table → List ℕ → List ℕ
roots_of t keep = those (row_count t) (λ r. is_row t r && marked keep r)

-- the array marks rows in use, and nothing else
pub record Roots (t : Table) (keep : List ℕ) : Type 0 where
  pub long : row_count t ≤ length keep
  pub used : (r : ℕ) → is_row t r ≡ true → marked keep r ≡ true → Used t r

-- the rows in the order in which their targets are marked: by falling height, and those of one height by falling number
abbrev pub turn : ℕ → ℕ → ℕ
turn height r = height * most_rows + r

-- what is marked is reached from the roots, the roots are marked, and so are the targets of the marked rows whose turn came before
pub record SpreadTo (t : Table) (roots : List ℕ) (now : ℕ) (keep : List ℕ) : Type 0 where
  pub reached : (r : ℕ) → is_row t r ≡ true → marked keep r ≡ true → reached_from t roots r ≡ true
  pub rooted : (r : ℕ) → Memᴰ r roots → Used t r → marked keep r ≡ true
  pub before : (r x : ℕ) → Arc t r x → marked keep r ≡ true → now ≤ turn (height t r) r → marked keep (target t r x) ≡ true

-- marking goes on from one turn to another: the array still marks rows in use
pub record Spreads (t : Table) (from to : ℕ) (p q : List ℕ) : Type 0 where
  pub roots : Roots t q
  pub spreads : (roots : List ℕ) → Each (Named t) roots → SpreadTo t roots from p → SpreadTo t roots to q
