-- How many arcs lead to a row. Assumes nothing.
use Rattle.std.specs.Prelude.{ℕ, ◌+◌, ◌≤◌, ◌<◌, ◌≡◌, cond, List, eqb, length, get_or}
use Rattle.letters.specs.Letters.{letters}
use Rattle.letters.specs.LetterSet.{flag}
use Rattle.sets.specs.Below.{total}
use Rattle.rows.specs.Table.{Table, row_count, target, in_use}

-- the arcs of row r for the letters below x that lead to row s
abbrev pub arcs_from : Table → ℕ → ℕ → ℕ → ℕ
arcs_from t r x s = total x (λ y. flag (eqb (target t r y) s))

-- all of the row, if it is in use
abbrev pub arcs_of : Table → ℕ → ℕ → ℕ
arcs_of t r s = cond (in_use t r) (arcs_from t r letters s) 0

-- and of the rows below n
abbrev pub arcs_below : Table → ℕ → ℕ → ℕ
arcs_below t n s = total n (λ r. arcs_of t r s)

abbrev pub arcs_to : Table → ℕ → ℕ
arcs_to t s = arcs_below t (row_count t) s

-- the array says of each row how many arcs lead to it
pub record Arcs (t : Table) (arcs : List ℕ) : Type 0 where
  pub long : row_count t ≤ length arcs
  pub counts : (s : ℕ) → 0 < s → s < row_count t → get_or arcs s 0 ≡ arcs_to t s

-- the array after: at each row so many more
pub record Adds (more : ℕ → ℕ) (before after : List ℕ) : Type 0 where
  pub long : length after ≡ length before
  pub adds : (s : ℕ) → 0 < s → get_or after s 0 ≡ get_or before s 0 + more s

-- no row has more; so there is place for one more
abbrev pub Few : ℕ → List ℕ → Type 0
Few most arcs = (s : ℕ) → 0 < s → get_or arcs s 0 ≤ most
