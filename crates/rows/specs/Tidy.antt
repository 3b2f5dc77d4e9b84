-- The rules as facts. A table is tidy where rules 1 to 4 and 6 hold: what a change keeps at every step. A sound book also follows rules 5
-- and 7. Assumes nothing.
use Rattle.std.specs.Prelude.{ℕ, ◌+◌, ◌*◌, ◌≤◌, ◌<◌, ◌≡◌, ◌⊎◌, length, get_or}
use Rattle.letters.specs.Letters.{letters}
use Rattle.letters.specs.Names.{longest}
use Rattle.model.specs.Lists.{missions}
use Rattle.rows.specs.Table.{Table, width, row_count, least_rows, most_rows, room, start, mark, height, target, number39, used_rows}

-- row r is in use
pub record Used (t : Table) (r : ℕ) : Type 0 where
  pub positive : 0 < r
  pub inside : r < row_count t
  pub marked : 0 < mark t r

-- 0, or a row in use: what a start or a target of a tidy table is
abbrev pub Named : Table → ℕ → Type 0
Named t n = 0 < n → Used t n

-- the row has an arc for the letter
pub record Arc (t : Table) (r x : ℕ) : Type 0 where
  pub used : Used t r
  pub letter : x < letters
  pub there : 0 < target t r x

-- rules 1 to 4 and 6
pub record Tidy (t : Table) : Type 0 where
  -- the length is "40k with k from 27 to 1,026"
  pub whole : length t ≡ row_count t * width
  pub least : least_rows ≤ row_count t
  pub most : row_count t ≤ most_rows
  -- 1. "Each start is 0 or a row with mark 1; the rest of the head is 0."
  pub starts : (m : ℕ) → m < missions → 0 < start t m → Used t (start t m) × (mark t (start t m) ≡ 1)
  pub rest : (i : ℕ) → missions ≤ i → i < width → get_or t i 0 ≡ 0
  -- 2. "Each mark is 0, 1 or 2, and a free row is forty zeros."
  pub marks : (r : ℕ) → Used t r → mark t r ≤ 2
  pub zeros : (r i : ℕ) → 0 < r → r < row_count t → mark t r ≡ 0 → i < width → get_or t (r * width + i) 0 ≡ 0
  -- 3. "In a row in use every target is 0 or a row in use"; the height is above those of the targets, and no more than that asks
  pub targets : (r x : ℕ) → Arc t r x → Used t (target t r x)
  pub lower : (r x : ℕ) → Arc t r x → height t (target t r x) < height t r
  pub tight : (r top : ℕ) → Used t r → ((x : ℕ) → Arc t r x → height t (target t r x) < top) → height t r ≤ top
  pub low : (r : ℕ) → Used t r → height t r ≤ longest
  pub numbers39 : (r : ℕ) → Used t r → number39 t r ≡ 0
  -- 4. "A row with mark 1 has a target."
  pub arc : (r : ℕ) → Used t r → mark t r ≡ 1 → (x : ℕ) × Arc t r x
  -- 6. "No two rows in use agree in mark and all 37 targets."
  pub apart : (r s : ℕ) → Used t r → Used t s → mark t r ≡ mark t s → ((x : ℕ) → x < letters → target t r x ≡ target t s x) → r ≡ s

-- 5. the row "is a start or the target of a row in use"
abbrev pub Pointed : Table → ℕ → Type 0
Pointed t r = ((m : ℕ) × (m < missions) × (start t m ≡ r)) ⊎ ((s : ℕ) × (x : ℕ) × Arc t s x × (target t s x ≡ r))

-- all seven
pub record Sound (t : Table) : Type 0 where
  pub tidy : Tidy t
  pub pointed : (r : ℕ) → Used t r → Pointed t r
  -- 7. "At most room rows are in use."
  pub fits : used_rows t ≤ room t
