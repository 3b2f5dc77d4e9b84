-- `leads_to` meets its promise: the branch has settled whether the byte is a letter. Assumes nothing.
use Prim.Native.Nat.{ℕ, ◌<◌}
use native.Mathlib.Omega.{arith}
use mathlib.Core.Path.{◌∙◌, ap}
use borrow.Author.Tests.{lt-ltb}
use Rattle.letters.specs.Letters.{letters, letter}
use Rattle.letters.proofs.Laws.{letter-le}
use Rattle.rows.specs.Table.{target}
use Rattle.rows.proofs.Facts.{row_inside}
use Rattle.walking.proofs.walk.leads_to.Goals as goal
use Rattle.walking.proofs.walk.leads_to.Goals.{Else-x-eq-LETTERS}

small : (c : Else-x-eq-LETTERS) → letter c.args.b < letters
small c = omega (arith, letter-le c.args.b, c.letter_of-x.ensures, c.if-x-eq-LETTERS.false)

pub target-requires : goal.target-requires
target-requires c =
    ((row_inside c.args.t.now c.args.row c.requires).1, omega (arith, small c, c.letter_of-x.ensures))

pub returns : goal.returns
returns c =
    let args = c.args in
    rw (lt-ltb (letter args.b) letters (small (goal.at.returns c).Else-x-eq-LETTERS))
    (c.target.ensures ∙ ap (λ (x : ℕ). target args.t.now args.row x) c.letter_of-x.ensures)
