-- `answer` meets its promise: what the line asks for is known in each branch, and what was written is the answer to it. Assumes nothing.
use mathlib.Core.Path.{refl, sym, ◌∙◌}
use Rattle.lines.proofs.Answered.{call-answered}
use Rattle.lines.proofs.steps.answer.Goals as goal

pub returns-in-Some : goal.returns-in-Some
returns-in-Some c =
    let asked = sym c.request_of.ensures ∙ c.in-Some.is in
    let made = c.call-reply in
    let named = c.name_of.ensures in
    call-answered made.result asked (rw named at made.ensures) c.put_answer.ensures.long c.put_answer.ensures.buffer

pub returns-in-None : goal.returns-in-None
returns-in-None c =
    let asked = sym c.request_of.ensures ∙ c.in-None.is in
    let put = c.put_other.ensures in
    record { long = put.long ∙ rw asked; buffer = put.buffer ∙ rw asked; table = rw asked refl }
