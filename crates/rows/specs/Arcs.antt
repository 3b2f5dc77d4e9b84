-- The arcs of a row, one after another. Assumes nothing.
use Rattle.std.specs.Prelude.{ℕ, ◌<◌, ◌≡◌, suc, Option, MatchOption}
use Rattle.letters.specs.Letters.{letters}
use Rattle.rows.specs.Table.{Table, target}
use Rattle.rows.specs.Skips.{NextArc}
use Rattle.rows.specs.declared.arcs.Arcs.{Arcs}

-- the next arc from s on is the one for letter x, to n
pub record ArcFrom (s : Arcs) (x n : ℕ) : Type 0 where
  pub next : NextArc s.t.now s.row s.from x
  pub inside : x < letters
  pub to : n ≡ target s.t.now s.row x

-- what the next of the arcs from s on is, or that there are no more; and e goes on behind it
pub record YieldsArc (s : Arcs) (arc : Option (ℕ × ℕ)) (e : Arcs) : Type 0 where
  pub table : e.t ≡ s.t
  pub row : e.row ≡ s.row
  pub gives : MatchOption arc (NextArc s.t.now s.row s.from letters × (e.from ≡ s.from)) (λ a. ArcFrom s a.0 a.1 × (e.from ≡ suc a.0))

-- the arcs are those of row r
pub record ArcsOf (t : Table) (r : ℕ) (a : Arcs) : Type 0 where
  pub table : a.t.now ≡ t
  pub row : a.row ≡ r

-- from s to e: the next arc of row r is the one for letter x, to n
pub record Goes (t : Table) (r : ℕ) (s e : Arcs) (x n : ℕ) : Type 0 where
  pub next : NextArc t r s.from x
  pub inside : x < letters
  pub to : n ≡ target t r x
  pub from : e.from ≡ suc x
  pub still : ArcsOf t r e
