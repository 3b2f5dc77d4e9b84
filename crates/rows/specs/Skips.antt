-- Numbers that are 0, which a loop over a row may skip. Assumes nothing.
use Rattle.std.specs.Prelude.{ℕ, ◌+◌, ◌≤◌, ◌<◌, ◌≡◌, Bool, false, List, eqb, get_or}
use Rattle.letters.specs.Letters.{letters}
use Rattle.letters.specs.Below.{all_below}
use Rattle.rows.specs.Table.{Table, target}

-- the eight numbers from a on are 0
abbrev pub eight_zeros : List ℕ → ℕ → Bool
eight_zeros s a = all_below 8 (λ i. eqb (get_or s (a + i) 0) 0)

-- the numbers from a on that stand before e are 0
pub record Zeros (s : List ℕ) (a e : ℕ) : Type 0 where
  pub from : a ≤ e
  pub zeros : (i : ℕ) → a ≤ i → i < e → get_or s i 0 ≡ 0

-- e is the first place from a on whose number is not 0, or the end
pub record Skipped (s : List ℕ) (a end e : ℕ) : Type 0 where
  pub before : Zeros s a e
  pub to : e ≤ end
  pub stops : e < end → 0 < get_or s e 0

-- the same, eight numbers at a time: fewer than eight are left, or they are not all 0
pub record SkippedEights (s : List ℕ) (a end e : ℕ) : Type 0 where
  pub before : Zeros s a e
  pub to : e ≤ end
  pub stops : e + 8 ≤ end → eight_zeros s e ≡ false

-- e is the first letter from x on for which row r has a target, or the number of letters
pub record NextArc (t : Table) (r x e : ℕ) : Type 0 where
  pub from : x ≤ e
  pub to : e ≤ letters
  pub none : (y : ℕ) → x ≤ y → y < e → target t r y ≡ 0
  pub stops : e < letters → 0 < target t r e
