-- What a change comes to, once for all changes. Assumes nothing.
use Rattle.std.specs.Prelude.{ℕ, ◌≡◌, Bool, true, false, cond, [], leb, length, set}
use Rattle.letters.specs.LetterSet.{count_of}
use Rattle.sets.specs.Sets.{Words, member}
use Rattle.sets.specs.Residuals.{need}
use Rattle.model.specs.Lists.{replace}
use Rattle.rows.specs.Table.{Table, row_count, room}
use Rattle.rows.specs.Words.{words, lists}
use Rattle.rows.specs.Rules.{sound}
use Rattle.rows.specs.Tidy.{Named}
use Rattle.rows.specs.Reach.{reached, swept}

-- the table with another start for mission m
abbrev pub with_start : Table → ℕ → ℕ → Table
with_start t m r = set t m r

-- 0, or a row whose words are names: "The empty word is no name"
pub record Startable (t : Table) (r : ℕ) : Type 0 where
  pub named : Named t r
  pub no_empty : member [] (words t r) ≡ false

-- the sixteen lists, with l for mission m, do not "need more states than room"
abbrev pub fits : Table → ℕ → Words → Bool
fits t m l = leb (need (replace (lists t) m l)) (room t)

-- every row that is not reached is free after it, if those that are fit into the room; else the table is the same
pub record SweptIf (t after : Table) (done : Bool) : Type 0 where
  pub says : done ≡ leb (count_of (row_count t) (λ r. reached t r)) (room t)
  pub table : after ≡ cond done (swept t) t

-- settle: the start is set if the lists then fit; every row that is not reached is free after it
pub record Settles (t after : Table) (m r : ℕ) (done : Bool) : Type 0 where
  pub says : done ≡ fits t m (words t r)
  pub table : after ≡ swept (cond done (with_start t m r) t)

-- a change of the list of mission m to l in a sound book: done exactly if the lists after the change fit, and else the table is the same,
-- number for number
pub record Changed (t after : Table) (m : ℕ) (l : Words) (done : Bool) : Type 0 where
  pub says : done ≡ fits t m l
  pub refused : done ≡ false → after ≡ t
  pub long : length after ≡ length t
  pub sound : sound after ≡ true
  pub lists : lists after ≡ cond done (replace (lists t) m l) (lists t)
