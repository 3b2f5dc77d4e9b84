-- `follow` meets its promise: what the line asks for is known in each branch. Assumes nothing.
use mathlib.Core.Path.{refl, sym, ◌∙◌}
use Rattle.lines.proofs.names.follow.Goals as goal

pub returns-in-Some : goal.returns-in-Some
returns-in-Some c =
    let asked = sym c.request_of.ensures ∙ c.in-Some.is in
    rw asked (record { long = c.follow_call.ensures.long; buffer = c.follow_call.ensures.buffer })

pub returns-in-None : goal.returns-in-None
returns-in-None c =
    let asked = sym c.request_of.ensures ∙ c.in-None.is in
    rw asked (record { long = refl; buffer = refl })
