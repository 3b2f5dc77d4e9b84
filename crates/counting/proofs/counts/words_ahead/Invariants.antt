-- `words_ahead` meets its promise. The loop's invariant: `n` is what stands ahead of the letter that the arcs go on from, since the letters
-- that are passed have no target and add nothing; and `n` is small, because each of the lower letters has added a u16 at most. Assumes nothing.
use Prim.Native.Nat.{suc, ◌*◌, ◌≤◌, ◌<◌}
use mathlib.Core.Path.{◌≡◌}
use Rattle.rows.specs.Arcs.{ArcsOf}
use Rattle.counting.specs.Ahead.{ahead_by}
use Rattle.counting.specs.Counts.{count_at}
use Rattle.counting.proofs.counts.words_ahead.Given as goal

abbrev pub invariant-loop-y : goal.invariant-loop-y
invariant-loop-y l =
    let from = l.y-iterator.from in
    ArcsOf l.t l.r l.y-iterator × (from ≤ l.x) × (l.n < 65536 * suc from) × (l.n ≡ ahead_by (λ s. count_at l.counts s) l.t l.r from)
