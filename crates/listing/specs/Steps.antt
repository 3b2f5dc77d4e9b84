-- The way down to the word with n words before it. Assumes nothing.
use Rattle.std.specs.Prelude.{ℕ, ◌+◌, ◌≤◌, ◌<◌, ◌≡◌, List, length}
use Rattle.letters.specs.Letters.{letters}
use Rattle.sets.specs.Cut.{most_names}
use Rattle.rows.specs.Table.{Table, target}
use Rattle.rows.specs.Words.{words}
use Rattle.counting.specs.Ahead.{ahead}
use Rattle.counting.specs.Counts.{Counts, Counted}
use Rattle.listing.specs.declared.word.Step.{Step}

-- r is 0 or a row that is counted, and from r there are no more words than are counted
pub record Listable (t : Table) (counts : List ℕ) (r : ℕ) : Type 0 where
  pub counted : Counts t counts
  pub row : Counted t counts r
  pub few : length (words t r) ≤ most_names

-- the word with n words before it begins with the letter, and the rest of it has `left` words before it at the letter's target
pub record Leads (t : Table) (r n : ℕ) (step : Step) : Type 0 where
  pub letter : step.letter < letters
  pub before : ahead t r step.letter + step.left ≡ n
  pub under : step.left < length (words t (target t r step.letter))
