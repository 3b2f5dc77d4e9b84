-- The loop's invariant: what was read is inside the buffer, and is what the reader has lost. The measure is what is left of the buffer. Assumes
-- nothing.
use Rattle.std.proofs.Common.{length, take, ◌-◌, ◌≤◌}
use Rattle.std.specs.Io.KnownBytes.{Consumes}
use Rattle.desk.proofs.read_full.Given as goal

abbrev pub invariant-loop-long : goal.invariant-loop-long
invariant-loop-long g l =
    (l.long ≤ length l.buffer) × Consumes (g.R.Read.remaining l.initial.from) (g.R.Read.remaining l.from) (take l.long l.buffer)

abbrev pub decreases-loop-long : goal.decreases-loop-long
decreases-loop-long g l = length l.initial.buffer - l.long
