-- `end_ok` meets its promise: each branch has settled one of the tests, and the height says whether there is a target. Assumes nothing.
use mathlib.Core.Path.{◌≡◌, sym, ◌∙◌}
use mathlib.Core.Bool.{true}
use borrow.Author.Tests.{eq-eqb}
use Rattle.rows.specs.Table.{in_use, mark}
use Rattle.rules.proofs.Heights.{has-target}
use Rattle.rules.proofs.ends.end_ok.Goals as goal
use Rattle.rules.proofs.ends.end_ok.Goals.{Else-not-in_use}

used : (c : Else-not-in_use) → in_use c.args.t.now c.args.r ≡ true
used c = sym c.in_use.ensures ∙ c.if-not-in_use.false

pub returns : goal.returns
returns c =
    let t = c.args.t.now in
    let r = c.args.r in
    let in_use_lem = used (goal.at.returns c).Else-not-in_use in
    rw (in_use_lem, eq-eqb (mark t r) 1 (sym c.mark.ensures ∙ c.if-mark-ne1.false), c.height.ensures)
    (has-target t c.requires r in_use_lem)
