-- The rows in order of their heights: chains of the rows of each height. Assumes nothing.
use Rattle.std.specs.Prelude.{ℕ, suc, cond, List}
use Rattle.letters.specs.Names.{longest}
use Rattle.rows.specs.Table.{Table, row_count, height, in_use}
use Rattle.chains.specs.Chains.{Chained}

-- a row in use is of the kind one above its height, and a free row of kind 0
abbrev pub level : Table → ℕ → ℕ
level t r = cond (in_use t r) (suc (height t r)) 0

-- the heights are 0 to the length of the longest name
abbrev pub levels : ℕ
levels = suc (suc longest)

abbrev pub Ordered : Table → List ℕ → Type 0
Ordered t order = Chained levels (λ r. level t r) (row_count t) order
