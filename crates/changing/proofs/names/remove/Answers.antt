-- `remove` meets its promise: it is a change of one name. Assumes nothing.
use mathlib.Core.Path.{refl}
use Rattle.model.specs.Call.Call.{remove}
use Rattle.promises.proofs.Meeting.{promises-change}
use Rattle.changing.proofs.names.remove.Goals as goal

pub returns : goal.returns
returns c = promises-change _ _ (remove _ _) _ refl (λ p. p) refl c.set.ensures
