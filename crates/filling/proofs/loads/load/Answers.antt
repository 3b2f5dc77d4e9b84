-- `load` meets its promise: a load of one list is the load of two of which the second is empty. Assumes nothing.
use Rattle.filling.proofs.Outcomes.{alone-promised}
use Rattle.filling.proofs.loads.load.Goals as goal

pub returns : goal.returns
returns c = alone-promised _ _ _ _ _ c.load_two.ensures
