-- `name_end` meets its promise. The loop's invariant: the name ends where the one that starts at `i` ends. That is at `i` itself where a
-- line end stands there or the list is over, and else one byte further on changes nothing. Assumes nothing.
use mathlib.Core.Path.{◌≡◌}
use Rattle.letters.specs.Lists.{name_end}
use Rattle.letters.proofs.lists.name_end.Given as goal

abbrev pub invariant-loop-i : goal.invariant-loop-i
invariant-loop-i l = name_end l.s l.at ≡ name_end l.s l.i
