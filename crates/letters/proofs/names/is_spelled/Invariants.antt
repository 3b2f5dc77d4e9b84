-- `is_spelled` meets its promise. The loop's invariant: all is spelled where all from the index on is. Assumes nothing.
use mathlib.Core.Path.{◌≡◌}
use lib.ListN.{drop}
use Rattle.letters.specs.Names.{spelled}
use Rattle.letters.proofs.names.is_spelled.Given as goal

abbrev pub invariant-loop-b : goal.invariant-loop-b
invariant-loop-b l = spelled l.s ≡ spelled (drop l.b-index l.s)
