use mathlib.Core.Path.{refl, sym, ◌∙◌}
use native.Mathlib.Numerals.{add-one}
use native.Mathlib.Omega.{arith}
use Rattle.letters.specs.Letters.{letters}
use Rattle.letters.specs.LetterSet.{sum_of}
use Rattle.letters.proofs.LetterSet.{sum_lt, none-sum}
use Rattle.walking.proofs.walk.letter_set.Goals as goal

pub returns-then-not-is_row : goal.returns-then-not-is_row
returns-then-not-is_row c =
    let none = sym c.is_row.ensures ∙ c.if-not-is_row.true in
    sym (none-sum letters _ (λ x h. rw none))

pub loop-x-init : goal.loop-x-init
unfolding sum_of
loop-x-init c = (omega arith, refl)

pub with_arc-set-requires : goal.with_arc-set-requires
with_arc-set-requires c =
    let row = sym c.is_row.ensures ∙ c.if-not-is_row.false in
    let l = c.loop-x in
    (row, omega arith, rw l.invariant.1 (sum_lt l.x _))

pub loop-x-preserved : goal.loop-x-preserved
unfolding sum_of
loop-x-preserved c = (omega arith, c.with_arc-set.ensures ∙ rw (add-one, c.loop-x.invariant.1))
