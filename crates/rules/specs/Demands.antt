-- What a target demands of the height of its row. Assumes nothing.
use Rattle.std.specs.Prelude.{ℕ, Bool, true, false, ◌||◌, eqb, Option, Some, None}
use Rattle.rows.specs.Table.{Table, in_use}
use Rattle.rows.specs.Rules.{above}

abbrev pub demand_if : Bool → ℕ → Option ℕ
demand_if true top = Some top
demand_if false top = None

-- "every target is 0 or a row in use": then it demands a height, else the rule is broken
abbrev pub demands : Table → ℕ → Option ℕ
demands t n = demand_if (eqb n 0 || in_use t n) (above t n)
