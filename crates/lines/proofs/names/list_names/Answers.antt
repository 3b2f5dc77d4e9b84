-- `list_names` meets its promise: the value of write is how many bytes it wrote, also where it is refused. Assumes nothing.
use mathlib.Core.Path.{◌∙◌, ap}
use Rattle.answers.specs.declared.replies.Reply.{Reply}
use Rattle.lines.proofs.Following.{written-long}
use Rattle.lines.proofs.names.list_names.Goals as goal

pub returns-in-Ok : goal.returns-in-Ok
returns-in-Ok c =
    let p = rw c.in-Ok.is at c.write.ensures in
    (record { long = ap (λ (r : Reply). r.value) p.answers ∙ written-long _ _ _; buffer = p.buffer })

pub returns-in-Err : goal.returns-in-Err
returns-in-Err c =
    let p = rw c.in-Err.is at c.write.ensures in
    (record { long = ap (λ (r : Reply). r.value) p.answers ∙ written-long _ _ _; buffer = p.buffer })
