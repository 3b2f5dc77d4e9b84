-- "which state rows hold which states is free, and tables are then the same up to renumbering". Assumes nothing.
use Rattle.std.specs.Prelude.{ℕ, ◌≤◌, ◌<◌, ◌≡◌, true, false, length, get_or}
use Rattle.letters.specs.Letters.{letters}
use Rattle.model.specs.Lists.{missions}
use Rattle.rows.specs.Table.{Table, width, is_row, start, mark, height, target, number39}

-- u is t with its state rows in another order: a one-to-one map of the state rows carries the starts and all forty numbers of each row
pub record Renumbered (t u : Table) : Type 0 where
  pub to : ℕ → ℕ
  pub from : ℕ → ℕ
  pub long : length u ≡ length t
  -- state rows go to state rows, one to one
  pub to_row : (r : ℕ) → is_row t r ≡ true → is_row u (to r) ≡ true
  pub from_row : (r : ℕ) → is_row u r ≡ true → is_row t (from r) ≡ true
  pub from_to : (r : ℕ) → is_row t r ≡ true → from (to r) ≡ r
  pub to_from : (r : ℕ) → is_row u r ≡ true → to (from r) ≡ r
  -- what is no row stays as it is
  pub others : (n : ℕ) → is_row t n ≡ false → to n ≡ n
  -- the head
  pub starts : (m : ℕ) → m < missions → start u m ≡ to (start t m)
  pub rest : (i : ℕ) → missions ≤ i → i < width → get_or u i 0 ≡ get_or t i 0
  -- all forty numbers of a row
  pub marks : (r : ℕ) → is_row t r ≡ true → mark u (to r) ≡ mark t r
  pub heights : (r : ℕ) → is_row t r ≡ true → height u (to r) ≡ height t r
  pub targets : (r x : ℕ) → is_row t r ≡ true → x < letters → target u (to r) x ≡ to (target t r x)
  pub numbers39 : (r : ℕ) → is_row t r ≡ true → number39 u (to r) ≡ number39 t r
