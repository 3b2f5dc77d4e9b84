-- What is promised of the row of a group, and of what is ahead behind it. Assumes nothing.
use Rattle.std.specs.Prelude.{ℕ, Result, Ok, Err, List}
use Rattle.rows.specs.Table.{Table, row_count}
use Rattle.growing.specs.declared.makes.Full.{Full}
use Rattle.growing.specs.Growing.{MadeRow, MadeFull}
use Rattle.merging.specs.declared.places.Places.{Places}
use Rattle.building.specs.declared.depths.Ahead.{Ahead}
use Rattle.building.specs.declared.groups.Group.{Group}
use Rattle.building.specs.Groups.{group, Behind}

pub record BuiltGroup (t u : Table) (f s : List ℕ) (at : Places) (name : List ℕ) (depth r : ℕ) (ahead : Ahead) : Type 0 where
  pub made : MadeRow (row_count t) t u (group f s at name depth) r
  pub behind : Behind f s at name depth ahead

abbrev pub Builds : Table → Table → List ℕ → List ℕ → Places → List ℕ → ℕ → Result Group Full → Type 0
Builds t u f s at name depth (Ok built) = BuiltGroup t u f s at name depth built.row built.ahead
Builds t u f s at name depth (Err full) = MadeFull (row_count t) t u (group f s at name depth)
