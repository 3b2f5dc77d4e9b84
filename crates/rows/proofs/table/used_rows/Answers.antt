use native.Mathlib.Numerals.{add-one}
use borrow.Author.Rules.{rules}
use Rattle.letters.specs.LetterSet.{count_of}
use Rattle.rows.proofs.table.used_rows.Goals as goal
use Rattle.rows.proofs.table.used_rows.Goals.{then-in_use, else-in_use}

pub loop-r-init : goal.loop-r-init
unfolding count_of
loop-r-init c = search rules

pub loop-r-preserved : goal.loop-r-preserved
unfolding count_of
loop-r-preserved c =
    elim c.if-in_use.branch [
      | then-in_use w ↦ (search rules, rw (w.n-is, add-one, c.loop-r.invariant.1) (search rules))
      | else-in_use w ↦ (search rules, rw (w.n-is, add-one, c.loop-r.invariant.1) (search rules))
    ]
