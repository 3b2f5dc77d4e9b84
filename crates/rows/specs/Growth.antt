-- How a change makes rows: it never touches a row in use. Assumes nothing.
use Rattle.std.specs.Prelude.{ℕ, ◌+◌, ◌*◌, ◌<◌, ◌≡◌, length, get_or}
use mathlib.Core.List.{List, Memᴰ}
use Rattle.sets.specs.Sets.{Words}
use Rattle.sets.specs.Residuals.{states}
use Rattle.rows.specs.Table.{Table, width}
use Rattle.rows.specs.Words.{words}
use Rattle.rows.specs.Tidy.{Used}

-- u is t with more rows in use: the same length, the same head, and each row that is in use in t is the same in u
pub record Grown (t u : Table) : Type 0 where
  pub long : length u ≡ length t
  pub head : (i : ℕ) → i < width → get_or u i 0 ≡ get_or t i 0
  pub kept : (r i : ℕ) → Used t r → i < width → get_or u (r * width + i) 0 ≡ get_or t (r * width + i) 0

-- the words of every row in use are left of the lists after some letters
abbrev pub Useful : List Words → Table → Type 0
Useful ls t = (r : ℕ) → Used t r → Memᴰ (words t r) (states ls)
