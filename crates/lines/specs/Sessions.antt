-- What is printed for a whole input, by sixteen plain sets, and by a program that takes step after step. Assumes nothing.
use Rattle.std.specs.Prelude.{Some, None, ℕ, suc, ◌+◌, ◌≤◌, ◌≡◌, true, cond, List, [], ◌∷◌, ◌++◌, leb, length, take}
use Rattle.letters.specs.Lists.{lines_of, lines}
use Rattle.sets.specs.Sets.{Words}
use Rattle.model.specs.Lists.{empty_lists}
use Rattle.model.specs.Call.{Book, book_with}
use Rattle.model.specs.Run.{run}
use Rattle.rows.specs.Table.{Table}
use Rattle.lines.specs.declared.steps.Place.{Place}
use Rattle.lines.specs.Requests.{Request, name_of, request_of, call_of}
use Rattle.lines.specs.Promises.{said, names_behind}
use Rattle.lines.specs.Steps.{desk_room, most_input, too_long, most_output, Steps}

-- the lists after a line
abbrev pub lists_after_line : Book → List ℕ → Request → List Words
lists_after_line b line (Some (kind, m)) = (run b (call_of kind m (name_of line))).lists
lists_after_line b line None = b.lists

-- what is printed for the lines, of which the first is the n-th
abbrev pub printed : ℕ → List Words → ℕ → List (List ℕ) → List ℕ
printed room ls n [] = []
printed room ls n (line ∷ more) =
    let b = book_with room ls in
    let asked = request_of line in
    said (run b) line n asked ++ lines (names_behind b asked) ++ printed room (lists_after_line b line asked) (suc n) more

-- "(more: it prints only `! long`)". "A last line without an end is read as if it had one. There is no header."
unfoldable pub prints : List ℕ → List ℕ
prints input = cond (leb (length input) most_input) (printed desk_room empty_lists 1 (lines_of input)) too_long

-- so many bytes of the input are read: one more than may be tells that there are more
abbrev pub input_size : ℕ
input_size = most_input + 1

-- a step that was taken: the buffer before it and after it, the table after it, and where the program then stood
pub record Taken : Type 0 where
  pub before : List ℕ
  pub filled : List ℕ
  pub table : Table
  pub place : Place

-- step after step from a place on, until it is over
abbrev pub StepsFrom : List ℕ → Table → Place → List Taken → Type 0
StepsFrom input t place [] = place.over ≡ true
StepsFrom input t place (s ∷ more) =
    Steps t s.table input place s.before s.filled s.place × (most_output ≤ length s.before)
    × StepsFrom input s.table s.place more

-- after each step so many bytes of the buffer as the place says
abbrev pub output : List Taken → List ℕ
output [] = []
output (s ∷ more) = take s.place.bytes s.filled ++ output more
