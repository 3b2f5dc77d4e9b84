-- What the test of rule 3 leaves in the array that counts the arcs to each row, and in the index. Assumes nothing.
use Rattle.std.specs.Prelude.{ℕ, ◌≤◌, ◌≡◌, Bool, true, List, length}
use Rattle.rows.specs.Table.{Table, width}
use Rattle.index.specs.Arcs.{Arcs, Adds}
use Rattle.index.specs.Index.{index_length, Keyed}

-- what a test answers that counts arcs on the way: what the rule says and, where it holds, the array after
pub record Tested (rule : Bool) (more : ℕ → ℕ) (before after : List ℕ) (answer : Bool) : Type 0 where
  pub says : answer ≡ rule
  pub long : length after ≡ length before
  pub counts : answer ≡ true → Adds more before after

-- the keys of the rows before n are in the index, if the test passed
pub record KeyedIf (answer : Bool) (t : Table) (n : ℕ) (index : List ℕ) : Type 0 where
  pub long : length index ≡ index_length
  pub passed : answer ≡ true → Keyed t n index

-- a table with a head, and the arcs to each of its rows
pub record ArcsCounted (t : Table) (arcs : List ℕ) : Type 0 where
  pub head : width ≤ length t
  pub counts : Arcs t arcs
