-- `is_ready` meets its promise. Assumes nothing.
use Rattle.lines.proofs.steps.is_ready.Goals as goal

pub returns : goal.returns
returns c = rw c.is_place.ensures
