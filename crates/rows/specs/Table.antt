-- 01, "Rows": the table is one slice of numbers, and this is how a row is read. The crates of the rows layer (README, "How the crates lie") go by
-- these names; "nothing above the rows reads a row except through its rules". Assumes nothing.
use Rattle.std.specs.Prelude.{ℕ, ◌+◌, ◌-◌, ◌*◌, ◌/◌, ◌%◌, Bool, ◌&&◌, List, eqb, leb, ltb, length, take, drop, get_or}
use Rattle.letters.specs.Letters.{letters}
use Rattle.letters.specs.LetterSet.{count_of}
use Rattle.sets.specs.Below.{each}
use Rattle.model.specs.Lists.{missions}

abbrev pub Table : Type 0
Table = List ℕ

-- "rows of forty numbers"
abbrev pub width : ℕ
width = 40

-- "The slice is k rows of forty numbers": k
abbrev pub row_count : Table → ℕ
row_count t = length t / width

-- "k from 27 to 1,026"
abbrev pub least_rows : ℕ
least_rows = 27

abbrev pub most_rows : ℕ
most_rows = 1026

-- the "slice length" is "40k with k from 27 to 1,026"
unfoldable pub length_ok : Table → Bool
length_ok t = eqb (length t % width) 0 && (leb least_rows (row_count t) && leb (row_count t) most_rows)

-- the head, and "the 25 rows above the room"
abbrev pub not_room : ℕ
not_room = 26

-- "The room is k minus 26"
abbrev pub room : Table → ℕ
room t = row_count t - not_room

-- "rows 1 to k-1 are states": "A start or target of 0 or over k-1 is no row."
abbrev pub is_row : Table → ℕ → Bool
is_row t n = ltb 0 n && ltb n (row_count t)

-- "Head: number m, for m from 0 to 15, is the start row of mission m, or 0 if its list is empty."
abbrev pub start : Table → ℕ → ℕ
start t m = get_or t m 0

abbrev pub starts : Table → List ℕ
starts t = each missions (λ m. start t m)

-- "State row: number 0 is the mark (0 free, 1 in use, 2 in use and a name may end here)."
abbrev pub mark : Table → ℕ → ℕ
mark t r = get_or t (r * width) 0

-- "Number 1 is the height: the length of the longest word accepted from here."
abbrev pub height : Table → ℕ → ℕ
height t r = get_or t (r * width + 1) 0

-- "Number 2+x is the target row for letter x, or 0 for none."
abbrev pub target : Table → ℕ → ℕ → ℕ
target t r x = get_or t (r * width + 2 + x) 0

-- the 37 targets of a row
abbrev pub row_targets : Table → ℕ → List ℕ
row_targets t r = take letters (drop (r * width + 2) t)

-- "Number 39 is 0."
abbrev pub number39 : Table → ℕ → ℕ
number39 t r = get_or t (r * width + 39) 0

-- a name may end at the row
abbrev pub ends : Table → ℕ → Bool
ends t n = is_row t n && eqb (mark t n) 2

-- the row is in use
abbrev pub in_use : Table → ℕ → Bool
in_use t n = is_row t n && ltb 0 (mark t n)

-- "used: rows in use"
abbrev pub used_rows : Table → ℕ
used_rows t = count_of (row_count t) (λ r. in_use t r)
