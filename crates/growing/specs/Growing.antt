-- What every function promises that makes rows for some words: it never touches a row in use. Assumes nothing.
use Rattle.std.specs.Prelude.{ℕ, suc, ◌+◌, ◌≤◌, ◌<◌, ◌≡◌, Result, Ok, Err, length, get_or}
use mathlib.Core.List.{List, Memᴰ}
use Rattle.letters.specs.Each.{Each}
use Rattle.letters.specs.Letters.{letters}
use Rattle.letters.specs.Names.{longest}
use Rattle.sets.specs.Sets.{Words, Filled}
use Rattle.sets.specs.Residuals.{states}
use Rattle.rows.specs.Table.{Table, row_count, used_rows}
use Rattle.rows.specs.Words.{words}
use Rattle.rows.specs.Tidy.{Named, Tidy}
use Rattle.rows.specs.Growth.{Grown, Useful}
use Rattle.growing.specs.declared.makes.Full.{Full}

-- a mark and targets that a row of the table may have: its words have at most 24 letters
pub record Fitting (t : Table) (k : ℕ) (targets : List ℕ) : Type 0 where
  pub some : 0 < k
  pub most : k ≤ 2
  pub named : (x : ℕ) → x < letters → Named t (get_or targets x 0)
  pub short : (x : ℕ) → x < letters → Each (λ w. length w < longest) (words t (get_or targets x 0))

-- t has grown to u for the words l: the rows in use are the same, and every new one is needed for l
pub record Grows (t u : Table) (l : Words) : Type 0 where
  pub tidy : Tidy u
  pub grown : Grown t u
  pub useful : (ls : List Words) → (Filled l → Memᴰ l (states ls)) → Useful ls t → Useful ls u

-- the number is that of the row with the words, or 0 where there are none; at most so many rows more are in use
pub record MadeRow (most : ℕ) (t u : Table) (l : Words) (r : ℕ) : Type 0 where
  pub grows : Grows t u l
  pub named : Named u r
  pub has : words u r ≡ l
  pub few : used_rows u ≤ used_rows t + most

-- every row is in use, though fewer than so many more
pub record MadeFull (most : ℕ) (t u : Table) (l : Words) : Type 0 where
  pub grows : Grows t u l
  pub full : suc (used_rows u) ≡ row_count u
  pub few : used_rows u < used_rows t + most

-- what is promised of the row for the words l, with at most so many rows more in use
abbrev pub Makes : ℕ → Table → Table → Words → Result ℕ Full → Type 0
Makes most t u l (Ok r) = MadeRow most t u l r
Makes most t u l (Err full) = MadeFull most t u l

-- rows were made for the targets of a row that is wanted for the words l: so far the target of letter x has the words `given x`
pub record TargetsMade (t u : Table) (l : Words) (given : ℕ → Words) (targets : List ℕ) : Type 0 where
  pub grows : Grows t u l
  pub long : length targets ≡ letters
  pub named : (x : ℕ) → x < letters → Named u (get_or targets x 0)
  pub has : (x : ℕ) → x < letters → words u (get_or targets x 0) ≡ given x
