-- `follow_call` meets its promise: the kind is known in each branch, and no names follow a line of another kind than `L`. Assumes nothing.
use mathlib.Core.Path.{refl}
use Rattle.lines.proofs.Following.{others-none}
use Rattle.lines.proofs.names.follow_call.Goals as goal

pub returns-in-Count : goal.returns-in-Count
returns-in-Count c = rw c.in-Count.is (record { long = c.list_names.ensures.long; buffer = c.list_names.ensures.buffer })

pub returns-in-Add : goal.returns-in-Add
returns-in-Add c = let start = c.args in rw (others-none _ start.m _ start.kind c.in-Add.is) (record { long = refl; buffer = refl })
