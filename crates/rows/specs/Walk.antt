-- 01: "ask and next work on any numbers." The walk of a word through a table. Assumes nothing.
use Rattle.std.specs.Prelude.{ℕ, ◌-◌, ◌≤◌, ◌≡◌, Bool, true, cond, ◌&&◌, [], ◌∷◌, length}
use Rattle.letters.specs.Words.{Word, Spelled}
use Rattle.rows.specs.Table.{Table, is_row, target, ends}

-- where a walk ends: on a row, or on none (0), with what is left of the word
pub record Walk : Type 0 where
  pub row : ℕ
  pub left : Word

-- from a row, "Each step goes on with what is left of the word after the letters walked." It ends where the target is no row.
unfoldable pub walk : Table → Word → ℕ → Walk
walk t [] r = record { row = r; left = [] }
walk t (x ∷ w) r = cond (is_row t (target t r x)) (walk t w (target t r x)) (record { row = 0; left = x ∷ w })

-- from any number: "A start or target of 0 or over k-1 is no row."
unfoldable pub walk_from : Table → Word → ℕ → Walk
walk_from t w n = cond (is_row t n) (walk t w n) (record { row = 0; left = w })

-- "ask says 1 exactly when the walk ends on a row with mark 2."
abbrev pub accepts : Table → Word → ℕ → Bool
accepts t w n = ends t (walk_from t w n).row

-- 02, wish 1: "the number of letters in 01's walk whose target is a row", which are those that are not left
abbrev pub followed : Table → Word → ℕ → ℕ
followed t w n = length w - length (walk_from t w n).left

-- "Number 1 is the height: the length of the longest word accepted from here.": n is the length of the longest word accepted from the row
pub record Longest (t : Table) (r n : ℕ) : Type 0 where
  pub none_longer : (w : Word) → Spelled w → accepts t w r ≡ true → length w ≤ n
  pub word : Word
  pub spelled : Spelled word
  pub accepted : accepts t word r ≡ true
  pub long : length word ≡ n

-- "next reports each letter whose target is a row."
abbrev pub has_arc : Table → ℕ → ℕ → Bool
has_arc t n x = is_row t n && is_row t (target t n x)

-- "A prefix that leads nowhere gives 0 and 0."
abbrev pub follows : Table → Word → ℕ → ℕ → Bool
follows t w n x = has_arc t (walk_from t w n).row x
