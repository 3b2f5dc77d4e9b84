use native.Mathlib.Nat.{le_of_lt}
use native.Mathlib.Decide.{dec_lt}
use native.Mathlib.Omega.{arith}
use mathlib.Core.Path.{sym, ◌∙◌}
use lib.ListN.{length}
use Rattle.letters.proofs.Lines.{name_end-le, end-past, end-here, end_later}
use Rattle.letters.proofs.lists.name_end.Goals as goal

pub returns-then-s-i-eq-LINE_END : goal.returns-then-s-i-eq-LINE_END
returns-then-s-i-eq-LINE_END c =
    sym (c.loop-i.invariant ∙ end-here _ _ c.loop-i-test.true c.if-s-i-eq-LINE_END.true)

pub loop-i-preserved : goal.loop-i-preserved
loop-i-preserved c =
    c.loop-i.invariant ∙ end_later _ _ c.loop-i-test.true c.if-s-i-eq-LINE_END.false

pub returns : goal.returns
returns c =
    let s = c.args.s.now in
    let at = c.args.at in
    elim (dec_lt (length s) at) [
      | yes behind ↦ omega (arith, end-past s at (le_of_lt behind))
      | no within ↦ omega (arith, c.loop-i.invariant, end-past s c.loop-i.i c.loop-i-test.false, name_end-le s at (omega arith))
    ]
