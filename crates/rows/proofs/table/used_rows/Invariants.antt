-- `used_rows` meets its promise. The loop's invariant: `n` rows below `r` are in use. Assumes nothing.
use Prim.Native.Nat.{◌≤◌}
use mathlib.Core.Path.{◌≡◌}
use Rattle.letters.specs.LetterSet.{count_of}
use Rattle.rows.specs.Table.{in_use}
use Rattle.rows.proofs.table.used_rows.Given as goal

abbrev pub invariant-loop-r : goal.invariant-loop-r
invariant-loop-r l = (l.n ≤ l.r) × (l.n ≡ count_of l.r (λ s. in_use l.t s))
