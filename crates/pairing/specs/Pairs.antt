-- A pair of rows, its row, and the table of settled pairs. Assumes nothing.
use Rattle.std.specs.Prelude.{ℕ, zero, suc, ◌≤◌, ◌<◌, ◌≡◌, Bool, true, false, cond, ◌||◌, Option, Some, None, Result, List, [], eqb, length, get_or, set}
use Rattle.model.specs.Rules.{combined, chosen}
use Rattle.rows.specs.Table.{Table, row_count, most_rows, mark}
use Rattle.rows.specs.Words.{words}
use Rattle.rows.specs.Tidy.{Used, Named, Tidy}
use Rattle.growing.specs.Rows.{end_mark, words_over}
use Rattle.growing.specs.declared.makes.Full.{Full}
use Rattle.growing.specs.Growing.{Fitting, Makes}

-- two rows of a tidy table; "a missing row stands for no words"
pub record Pair (t : Table) (p q : ℕ) : Type 0 where
  pub tidy : Tidy t
  pub first : Named t p
  pub second : Named t q

-- two rows in use, of a tidy table
pub record Both (t : Table) (p q : ℕ) : Type 0 where
  pub tidy : Tidy t
  pub first : Used t p
  pub second : Used t q

-- the row, or none
abbrev pub or_none : Bool → ℕ → ℕ
or_none wanted r = cond wanted r 0

-- a pair that is settled at once: of one row twice, or with a missing row
abbrev pub is_at_once : ℕ → ℕ → Bool
is_at_once p q = eqb p q || eqb p 0 || eqb q 0

-- its row
abbrev pub at_once : ℕ → ℕ → ℕ → ℕ
at_once op p q = cond (eqb p 0) (or_none (chosen op false true) q) (or_none (chosen op true (eqb p q)) p)

-- the mark of the row of a pair
abbrev pub pair_mark : Table → ℕ → ℕ → ℕ → ℕ
pair_mark t op p q = end_mark (chosen op (eqb (mark t p) 2) (eqb (mark t q) 2))

-- a table of pairs has a number for every two rows
abbrev pub Pairs : Type 0
Pairs = List (List ℕ)

abbrev pub Wide : Pairs → Type 0
Wide seen = (p : ℕ) → p < length seen → length (get_or seen p []) ≡ most_rows

-- one more than the row of the pair, or 0 where the pair is not settled yet
abbrev pub entry : Pairs → ℕ → ℕ → ℕ
entry seen p q = get_or (get_or seen p []) q 0

-- the row that the number of a pair says, if the pair is settled
abbrev pub settled_row : ℕ → Option ℕ
settled_row zero = None
settled_row (suc r) = Some r

-- the same, with the pairs that are settled at once
abbrev pub known : Pairs → ℕ → ℕ → ℕ → Option ℕ
known seen op p q = cond (is_at_once p q) (Some (at_once op p q)) (settled_row (entry seen p q))

-- the table with this row for the pair
abbrev pub kept : Pairs → ℕ → ℕ → ℕ → Pairs
kept seen p q r = set seen p (set (get_or seen p []) q (suc r))

-- row r has the words of the pair
pub record Settles (op : ℕ) (t : Table) (p q r : ℕ) : Type 0 where
  pub first : Named t p
  pub second : Named t q
  pub named : Named t r
  pub has : words t r ≡ combined op (words t p) (words t q)

-- "The result of a pair of rows is settled": every row that is kept has the words of its pair
pub record Results (op : ℕ) (t : Table) (seen : Pairs) : Type 0 where
  pub rows : row_count t ≤ length seen
  pub wide : Wide seen
  pub settled : (p q r : ℕ) → entry seen p q ≡ suc r → Settles op t p q r

-- everything is there for the row of a pair of rows in use
pub record Ready (t : Table) (seen : Pairs) (op p q : ℕ) (targets : List ℕ) : Type 0 where
  pub tidy : Tidy t
  pub first : Used t p
  pub second : Used t q
  pub settled : Results op t seen
  pub fitting : Fitting t (pair_mark t op p q) targets
  pub over : words_over t (pair_mark t op p q) targets ≡ combined op (words t p) (words t q)

-- what is promised of the row of a pair, with at most so many rows more in use
pub record Combines (most : ℕ) (t u : Table) (seen : Pairs) (op p q : ℕ) (made : Result ℕ Full) : Type 0 where
  pub makes : Makes most t u (combined op (words t p) (words t q)) made
  pub settled : Results op u seen
