-- `index_rows` meets its promise. The loop's invariant: the rows below `r` are chained, and the keys and the numbers of arcs are there.
-- Assumes nothing.
use Prim.Native.Nat.{◌≤◌, ◌<◌}
use Rattle.rows.specs.Table.{row_count}
use Rattle.chains.specs.Chains.{Chained}
use Rattle.index.specs.Buckets.{bucket, buckets}
use Rattle.index.specs.Index.{Keys, ArcsAt}
use Rattle.index.proofs.builds.index_rows.Given as goal

abbrev pub invariant-loop-r : goal.invariant-loop-r
invariant-loop-r l =
    (0 < l.r) × (l.r ≤ row_count l.t) × Keys l.t (row_count l.t) l.index × Chained buckets (λ q. bucket l.t q) l.r l.index × ArcsAt l.t l.index
