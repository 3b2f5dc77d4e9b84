-- `all_rising` meets its promise. The loop's invariant: `end` is where the line at `at` ends, and the lines rise where those from `at` on do. The
-- order of the names at `at` and behind `end` decides, or else the lines behind `end`; a last line rises. The measure is what is left of the
-- list. Assumes nothing.
use Prim.Native.Nat.{◌-◌, ◌<◌}
use mathlib.Core.Path.{◌≡◌}
use lib.ListN.{length, drop}
use Rattle.letters.specs.Lists.{name_end, rises, names_of}
use Rattle.letters.proofs.lists.all_rising.Given as goal

abbrev pub invariant-loop-end : goal.invariant-loop-end
invariant-loop-end l =
    (l.at < length l.s) × (l.end ≡ name_end l.s l.at) × (rises (names_of l.s) ≡ rises (names_of (drop l.at l.s)))

abbrev pub decreases-loop-end : goal.decreases-loop-end
decreases-loop-end l = length l.s - l.at
