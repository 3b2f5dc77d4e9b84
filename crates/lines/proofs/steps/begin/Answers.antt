-- `begin` meets its promise: the table's length is a book's, so it was emptied. Assumes nothing.
use mathlib.Core.Path.{refl, ◌∙◌}
use Rattle.lines.proofs.Stages.{desk-length}
use Rattle.lines.proofs.steps.begin.Goals as goal

pub returns : goal.returns
returns c =
    (refl, c.empty.ensures.table ∙ rw (desk-length c.args.t.now c.requires))
