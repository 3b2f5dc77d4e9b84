-- The rows that are reached from others by arcs. Assumes nothing.
use Rattle.std.specs.Prelude.{ℕ, zero, suc, ◌/◌, Bool, false, cond, ◌&&◌, ◌||◌, List, eqb, ltb, length, get_or}
use Rattle.letters.specs.Each.{some}
use Rattle.letters.specs.Letters.{letters}
use Rattle.letters.specs.Names.{longest}
use Rattle.sets.specs.Below.{some_below, each}
use Rattle.rows.specs.Table.{Table, width, is_row, starts, target}

-- row s is reached from the number n by fewer than so many arcs
unfoldable pub reaches_in : ℕ → Table → ℕ → ℕ → Bool
reaches_in zero t n s = false
reaches_in (suc most) t n s = is_row t n && (eqb n s || some_below letters (λ x. reaches_in most t (target t n x) s))

-- by at most as many arcs as the longest name has letters; in a tidy table no way has more
abbrev pub reaches : Table → ℕ → ℕ → Bool
reaches t n s = reaches_in (suc longest) t n s

-- row s is reached from some of these numbers
abbrev pub reached_from : Table → List ℕ → ℕ → Bool
reached_from t ns s = some (λ n. reaches t n s) ns

-- row s is reached from a start
abbrev pub reached : Table → ℕ → Bool
reached t s = reached_from t (starts t) s

-- the table with every state row that fails the test set to forty zeros
unfoldable pub only_rows : Table → (ℕ → Bool) → Table
only_rows t test = each (length t) (λ j. cond (ltb j width || test (j / width)) (get_or t j 0) 0)

-- the table with every row that is not reached from a start set to forty zeros
abbrev pub swept : Table → Table
swept t = only_rows t (λ r. reached t r)
