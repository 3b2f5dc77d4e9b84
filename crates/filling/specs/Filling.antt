-- When the loads and combine are refused for nothing but 8, "receiving list not empty", or 11. Assumes nothing.
use Rattle.std.specs.Prelude.{ℕ, max, ◌<◌, ◌≡◌, true, List}
use Rattle.letters.specs.Lists.{is_list}
use Rattle.model.specs.Lists.{missions}
use Rattle.model.specs.Refusals.{is_operation}
use Rattle.rows.specs.Table.{Table}
use Rattle.rows.specs.Rules.{sound}

pub record Loadable (t : Table) (m : ℕ) (first second : List ℕ) : Type 0 where
  pub sound : sound t ≡ true
  pub mission : m < missions
  pub listed : is_list first ≡ true
  pub also : is_list second ≡ true

-- the greatest of three mission numbers: if it is a mission's, all are
abbrev pub highest : ℕ → ℕ → ℕ → ℕ
highest a b c = max (max a b) c

pub record Combinable (t : Table) (op a b c : ℕ) : Type 0 where
  pub sound : sound t ≡ true
  pub missions : highest a b c < missions
  pub operation : is_operation op ≡ true
