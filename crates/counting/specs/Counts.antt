-- An array with a number for each row that is counted: how many words there are from it, or how many bytes they are. Assumes nothing.
use Rattle.std.specs.Prelude.{ℕ, ◌≤◌, ◌<◌, ◌≡◌, List, length, get_or}
use Rattle.sets.specs.Cut.{cut}
use Rattle.rows.specs.Table.{Table, row_count, target}
use Rattle.rows.specs.Words.{words}
use Rattle.rows.specs.Tidy.{Used, Arc, Tidy}

-- the array's number for a row; 0 says that the row is not counted
abbrev pub count_at : List ℕ → ℕ → ℕ
count_at counts n = get_or counts n 0

-- in a tidy table, a row that is counted has its number, and its targets are counted; 0 is no row
pub record Numbered (t : Table) (number : ℕ → ℕ) (counts : List ℕ) : Type 0 where
  pub tidy : Tidy t
  pub long : row_count t ≤ length counts
  pub none : count_at counts 0 ≡ 0
  pub counted : (n : ℕ) → Used t n → 0 < count_at counts n → count_at counts n ≡ number n
  pub below : (r x : ℕ) → Arc t r x → 0 < count_at counts r → 0 < count_at counts (target t r x)

-- how many words there are from n, cut above 60,000
abbrev pub word_count : Table → ℕ → ℕ
word_count t n = cut (length (words t n))

-- the number of each row is that of the words from it
abbrev pub Counts : Table → List ℕ → Type 0
Counts t counts = Numbered t (word_count t) counts

-- r is a row in use that is counted
pub record CountedRow (t : Table) (counts : List ℕ) (r : ℕ) : Type 0 where
  pub used : Used t r
  pub some : 0 < count_at counts r

-- n is 0, or such a row
abbrev pub Counted : Table → List ℕ → ℕ → Type 0
Counted t counts n = 0 < n → CountedRow t counts n

-- what is counted stays counted
abbrev pub Kept : List ℕ → List ℕ → Type 0
Kept before after = (n : ℕ) → 0 < count_at before n → 0 < count_at after n

-- n is counted, and so are the rows that were counted before
pub record NumberedMore (t : Table) (number : ℕ → ℕ) (n : ℕ) (before after : List ℕ) : Type 0 where
  pub counts : Numbered t number after
  pub kept : Kept before after
  pub here : Counted t after n

abbrev pub CountsMore : Table → ℕ → List ℕ → List ℕ → Type 0
CountsMore t n before after = NumberedMore t (word_count t) n before after
