-- `request_if` meets its promise: where the line is of the request's form, its mission is what `mission_of` gives. Assumes nothing.
use Rattle.lines.proofs.requests.request_if.Goals as goal

pub returns-then-fine : goal.returns-then-fine
returns-then-fine c = rw (c.mission_of.ensures, c.if-fine.true)
