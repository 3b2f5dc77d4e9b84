-- The place of a row: where its words stand in the order of the sets that are left of the lists. Assumes nothing.
use Rattle.std.specs.Prelude.{ℕ, ◌<◌, ◌≡◌, List}
use Rattle.sets.specs.Sets.{Words}
use Rattle.sets.specs.Residuals.{states, place_in, need}
use Rattle.rows.specs.Table.{Table}
use Rattle.rows.specs.Words.{words, lists}

abbrev place_among : List Words → Table → ℕ → ℕ
place_among ls t r = place_in (words t r) (states ls)

abbrev pub place : Table → ℕ → ℕ
place t r = place_among (lists t) t r

-- the place is a bijection from these rows onto the places of the sets that are left of these lists
pub record OneToOne (ls : List Words) (t : Table) (These : ℕ → Type 0) : Type 0 where
  pub inside : (r : ℕ) → These r → place_among ls t r < need ls
  pub one : (r s : ℕ) → These r → These s → place_among ls t r ≡ place_among ls t s → r ≡ s
  pub onto : (p : ℕ) → p < need ls → (r : ℕ) × These r × (place_among ls t r ≡ p)
