-- `key_of` meets its promise. The loop's invariant: `m` is what the mark and the targets below `x` are mixed to. The measure is the letters that are
-- left. Assumes nothing.
use Prim.Native.Nat.{suc, ◌-◌, ◌*◌, ◌≤◌, ◌<◌}
use mathlib.Core.Path.{◌≡◌}
use lib.ListN.{get_or}
use Rattle.letters.specs.Letters.{letters}
use Rattle.index.specs.Buckets.{mix, product_bound}
use Rattle.index.proofs.keys.key_of.Given as goal

abbrev pub invariant-loop-x : goal.invariant-loop-x
invariant-loop-x l = (l.x ≤ letters) × (l.m < suc l.x * product_bound) × (l.m ≡ mix l.mark (λ y. get_or l.targets y 0) l.x)

abbrev pub decreases-loop-x : goal.decreases-loop-x
decreases-loop-x l = letters - l.x
