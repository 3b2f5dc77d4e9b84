-- `name_at` meets its promise: behind the list there is no name, and else the name is the part that ends where `name_end` says.
-- Assumes nothing.
use mathlib.Core.Path.{refl, sym}
use native.Mathlib.Nat.{le_of_lt}
use native.Mathlib.Omega.{arith}
use borrow.Author.Rules.{rules}
use Rattle.letters.proofs.Lines.{name-past, name-part, name_end-le}
use Rattle.letters.proofs.lists.name_at.Goals as goal

pub returns-then-s-at : goal.returns-then-s-at
returns-then-s-at c = record { bytes = sym (name-past _ _ (le_of_lt c.if-s-at.true)); part = λ inside. absurd (omega arith) }

pub slice_bounds-result-end-2 : goal.slice_bounds-result-end-2
slice_bounds-result-end-2 c = rw c.name_end-end.ensures (name_end-le _ _ c.if-s-at.false)

pub returns : goal.returns
returns c =
    rw c.name_end-end.ensures (record { bytes = name-part _ _; part = λ inside. record { block = search rules; offset = search rules; bytes = refl } })
