-- When add and remove are refused for nothing but room. Assumes nothing.
use Rattle.std.specs.Prelude.{ℕ, ◌<◌, ◌≡◌, Bool, true, cond, List}
use Rattle.letters.specs.Names.{is_name}
use Rattle.model.specs.Lists.{missions}
use Rattle.model.specs.Call.{Call}
use Rattle.model.specs.Call.Call.{add, remove}
use Rattle.rows.specs.Table.{Table}
use Rattle.rows.specs.Rules.{sound}

-- "add and remove one name": one call with a wanted state
abbrev pub set_call : Bool → ℕ → List ℕ → Call
set_call on m name = cond on (add m name) (remove m name)

-- none of the first four refusals applies: what is left is room
pub record Settable (t : Table) (m : ℕ) (name : List ℕ) : Type 0 where
  pub sound : sound t ≡ true
  pub mission : m < missions
  pub named : is_name name ≡ true
