-- The loop's invariant: steps were taken, and what they printed was written. The measure: each step leaves fewer. Assumes nothing.
use Rattle.std.proofs.Common.{ℕ, List, ◌++◌, Option, take}
use Rattle.std.specs.Io.KnownBytes.{Appends}
use Rattle.rows.specs.Table.{Table}
use Rattle.lines.specs.declared.steps.Place.{Place}
use Rattle.lines.specs.Sessions.{Taken, StepsFrom, output}
use Rattle.lines.proofs.Ends.{steps_left}
use Rattle.desk.proofs.run.Given as goal

-- steps lead from the first table and the beginning to where the program stands, and what they printed was written
pub record Going (input : List ℕ) (first t : Table) (start place : Place) (before now : Option (List ℕ)) : Type 0 where
  pub steps : List Taken
  pub rest : (more : List Taken) → StepsFrom input t place more → StepsFrom input first start (steps ++ more)
  pub written : Appends before now (output steps)

abbrev pub invariant-loop-place : goal.invariant-loop-place
invariant-loop-place g l =
    Going (take l.long l.input) l.initial.t l.t l.initial.place l.place (g.W.Write.contents l.initial.to) (g.W.Write.contents l.to)

abbrev pub decreases-loop-place : goal.decreases-loop-place
decreases-loop-place g l = steps_left (take l.long l.input) l.place
