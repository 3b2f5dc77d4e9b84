-- A row as a mark and 37 targets, for a new row that is much like it. Assumes nothing.
use Rattle.std.specs.Prelude.{ℕ, cond, List}
use Rattle.letters.specs.Letters.{letters}
use Rattle.sets.specs.Below.{each}
use Rattle.rows.specs.Table.{Table, is_row, mark, target}

-- "a missing row stands for no words": mark 1, and no target
abbrev pub mark_of : Table → ℕ → ℕ
mark_of t n = cond (is_row t n) (mark t n) 1

abbrev pub target_of : Table → ℕ → ℕ → ℕ
target_of t n x = cond (is_row t n) (target t n x) 0

abbrev pub targets_of : Table → ℕ → List ℕ
targets_of t n = each letters (λ x. target_of t n x)
