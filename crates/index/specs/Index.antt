-- The index of a table: chains of the rows of each bucket and, behind them, the key of each row in use and the number of arcs that lead to each row.
-- Assumes nothing.
use Rattle.std.specs.Prelude.{ℕ, ◌+◌, ◌≤◌, ◌<◌, ◌≡◌, Bool, true, cond, ◌&&◌, ◌⊎◌, List, eqb, length, get_or, set}
use Rattle.letters.specs.Letters.{letters}
use Rattle.letters.specs.Below.{all_below}
use Rattle.rows.specs.Table.{Table, row_count, most_rows, mark, target, in_use}
use Rattle.rows.specs.Tidy.{Used}
use Rattle.chains.specs.Chains.{Chained}
use Rattle.index.specs.Arcs.{arcs_from, arcs_to}
use Rattle.index.specs.Buckets.{row_key, bucket, buckets}

-- the place of a row's key
abbrev pub key_place : ℕ → ℕ
key_place r = buckets + most_rows + r

-- the place of the number of arcs that lead to a row
abbrev pub arcs_place : ℕ → ℕ
arcs_place r = buckets + most_rows + most_rows + r

abbrev pub index_length : ℕ
index_length = buckets + most_rows + most_rows + most_rows

-- the first n numbers of an array are kept behind the keys, and nothing before them is changed
pub record Keeps (arcs : List ℕ) (n : ℕ) (before after : List ℕ) : Type 0 where
  pub long : length after ≡ length before
  pub kept : (r : ℕ) → r < n → get_or after (arcs_place r) 0 ≡ get_or arcs r 0
  pub others : (i : ℕ) → i < arcs_place 0 → get_or after i 0 ≡ get_or before i 0

-- the keys of the rows in use before n are there
pub record Keys (t : Table) (n : ℕ) (index : List ℕ) : Type 0 where
  pub long : length index ≡ index_length
  pub at : (r : ℕ) → r < n → Used t r → get_or index (key_place r) 0 ≡ row_key t r

-- and no row is chained yet
pub record Keyed (t : Table) (n : ℕ) (index : List ℕ) : Type 0 where
  pub keys : Keys t n index
  pub blank : (i : ℕ) → i < buckets → get_or index i 0 ≡ 0

-- the array has the first n numbers that stand behind the keys
pub record Takes (index : List ℕ) (n : ℕ) (arcs : List ℕ) : Type 0 where
  pub long : n ≤ length arcs
  pub taken : (r : ℕ) → r < n → get_or arcs r 0 ≡ get_or index (arcs_place r) 0

-- they say how many arcs lead to each row
abbrev pub ArcsAt : Table → List ℕ → Type 0
ArcsAt t index = (s : ℕ) → 0 < s → s < row_count t → get_or index (arcs_place s) 0 ≡ arcs_to t s

-- every state row is in the chain of its bucket, the key of every row in use is there, and so is the number of arcs that lead to each row
pub record Indexed (t : Table) (index : List ℕ) : Type 0 where
  pub keys : Keys t (row_count t) index
  pub chained : Chained buckets (λ r. bucket t r) (row_count t) index
  pub arcs : ArcsAt t index

-- 6. "No two rows in use agree in mark and all 37 targets": the row in use has this mark and these targets
abbrev pub has : Table → ℕ → ℕ → List ℕ → Bool
has t r k targets = eqb (mark t r) k && all_below letters (λ x. eqb (target t r x) (get_or targets x 0))

abbrev pub agrees : Table → ℕ → ℕ → List ℕ → Bool
agrees t r k targets = in_use t r && has t r k targets

-- f is a row in use, of the rows up to n, that agrees; or 0 if none of them does
pub record Finds (t : Table) (n k : ℕ) (targets : List ℕ) (f : ℕ) : Type 0 where
  pub low : f ≤ n
  pub there : 0 < f → agrees t f k targets ≡ true
  pub none : f ≡ 0 → (q : ℕ) → q ≤ n → agrees t q k targets ≡ true → ⊥

-- the place of the array is that of a row of bucket b behind r
pub record LinkBehind (of : ℕ → ℕ) (n b r place : ℕ) : Type 0 where
  pub top : ℕ
  pub at : place ≡ buckets + top
  pub above : r < top
  pub inside : top < n
  pub kind : of top ≡ b

-- it is that of the whole chain of bucket b, or of a row of it behind r, whatever the kinds of the rows that are chained
abbrev pub LinkAbove : List ℕ → ℕ → ℕ → ℕ → Type 0
LinkAbove index b r place = (of : ℕ → ℕ) (n : ℕ) → Chained buckets of n index → (place ≡ b) ⊎ LinkBehind of n b r place

-- and what stands there is not behind r: it is where row r comes into the chain
abbrev pub Gaps : List ℕ → ℕ → ℕ → ℕ → Type 0
Gaps index b r place = (get_or index place 0 ≤ r) × LinkAbove index b r place

-- rows of some kinds are chained
abbrev pub SomeChains : List ℕ → Type 0
SomeChains index = (of : ℕ → ℕ) × (n : ℕ) × Chained buckets of n index

-- the array after row r, the last of the free ones, came into the chain of its bucket at the place
abbrev pub entered : List ℕ → ℕ → ℕ → ℕ → List ℕ
entered index place r key =
    set (set (set (set index 0 (get_or index (buckets + r) 0)) (buckets + r) (get_or index place 0)) place r) (key_place r) key

-- row r is written, and the index still says that it is the last free one; of its arcs those for the letters below x are counted
pub record Entering (t : Table) (r x : ℕ) (index : List ℕ) : Type 0 where
  pub long : length index ≡ index_length
  pub first : get_or index 0 0 ≡ r
  pub used : Used t r
  pub chained : Chained buckets (λ q. cond (eqb q r) 0 (bucket t q)) (row_count t) index
  pub keys : (q : ℕ) → Used t q → (q ≡ r → ⊥) → get_or index (key_place q) 0 ≡ row_key t q
  pub targets : (y : ℕ) → y < letters → target t r y < row_count t
  pub arcs : (s : ℕ) → 0 < s → s < row_count t → get_or index (arcs_place s) 0 + arcs_from t r letters s ≡ arcs_to t s + arcs_from t r x s
