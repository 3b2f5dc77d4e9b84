-- `add` meets its promise: it is a change of one name. Assumes nothing.
use mathlib.Core.Path.{refl}
use Rattle.model.specs.Call.Call.{add}
use Rattle.promises.proofs.Meeting.{promises-change}
use Rattle.changing.proofs.names.add.Goals as goal

pub returns : goal.returns
returns c = promises-change _ _ (add _ _) _ refl (λ p. p) refl c.set.ensures
