-- The row for a mark and 37 targets: its height, its words, and how it is written. Assumes nothing.
use Rattle.std.specs.Prelude.{ℕ, ◌/◌, ◌<◌, ◌≡◌, Bool, cond, List, length, get_or}
use Rattle.letters.specs.Letters.{letters}
use Rattle.sets.specs.Below.{greatest}
use Rattle.sets.specs.Sets.{Words}
use Rattle.rows.specs.Table.{Table, width, mark, height, target, number39}
use Rattle.rows.specs.Words.{fan, words}
use Rattle.rows.specs.Rules.{above}

-- 3. "the height is 0 if there is no target, else one more than the greatest height among its targets"
abbrev pub height_over : Table → List ℕ → ℕ
height_over t targets = greatest letters (λ x. above t (get_or targets x 0))

-- "2 in use and a name may end here", and 1 where none may
abbrev pub end_mark : Bool → ℕ
end_mark ends = cond ends 2 1

-- the words of a row with this mark and these targets
abbrev pub words_over : Table → ℕ → List ℕ → Words
words_over t k targets = fan k (λ x. words t (get_or targets x 0))

-- u is t with these numbers in row r; number 39 stays
pub record NewRow (t u : Table) (r k h : ℕ) (targets : List ℕ) : Type 0 where
  pub long : length u ≡ length t
  pub others : (j : ℕ) → (j / width ≡ r → ⊥) → get_or u j 0 ≡ get_or t j 0
  pub marked : mark u r ≡ k
  pub high : height u r ≡ h
  pub targeted : (x : ℕ) → x < letters → target u r x ≡ get_or targets x 0
  pub rest : number39 u r ≡ number39 t r
