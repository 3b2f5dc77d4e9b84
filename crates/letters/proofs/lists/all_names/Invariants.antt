-- `all_names` meets its promise. The loop's invariant: the list passes where what stands from `at` on does. The name at `at` decides, by
-- its end and by its bytes, or else what stands behind it. The measure is what is left of the list. Assumes nothing.
use Prim.Native.Nat.{ℕ, ◌-◌}
use mathlib.Core.Path.{◌≡◌}
use mathlib.Core.Bool.{Bool, ◌&&◌}
use mathlib.Core.List.{List}
use lib.ListN.{length, drop}
use Rattle.letters.specs.Each.{every}
use Rattle.letters.specs.Names.{is_name}
use Rattle.letters.specs.Lists.{lines_of, ended}
use Rattle.letters.proofs.lists.all_names.Given as goal

-- what `all_names` asks of a list
abbrev pub all_names : List ℕ → Bool
all_names bytes = ended bytes && every is_name (lines_of bytes)

abbrev pub invariant-loop-at : goal.invariant-loop-at
invariant-loop-at l = all_names l.s ≡ all_names (drop l.at l.s)

abbrev pub decreases-loop-at : goal.decreases-loop-at
decreases-loop-at l = length l.s - l.at
