-- `next_part` meets its promise: it hands over the part that whose turn it is asks for, and where it is someone's turn, his list has a name left.
-- Assumes nothing.
use native.Mathlib.Nat.{le_of_lt}
use mathlib.Core.Path.{sym, ◌∙◌}
use Rattle.merging.specs.declared.places.Turn.TheVariants.{First, Second, Both}
use Rattle.merging.proofs.Turns.{left_by}
use Rattle.merging.proofs.lists.TwoLists.next_part.Goals as goal

pub returns-in-First : goal.returns-in-First
returns-in-First c =
    let turn = sym c.whose_turn.ensures ∙ c.in-First.is in
    rw turn (c.name_at.ensures.part (le_of_lt (left_by _ _ _ First turn).0))

pub returns-in-Both : goal.returns-in-Both
returns-in-Both c =
    let turn = sym c.whose_turn.ensures ∙ c.in-Both.is in
    rw turn (c.name_at-in-Both.ensures.part (le_of_lt (left_by _ _ _ Both turn).0))

pub returns-in-Second : goal.returns-in-Second
returns-in-Second c =
    let turn = sym c.whose_turn.ensures ∙ c.in-Second.is in
    rw turn (c.name_at-in-Second.ensures.part (le_of_lt (left_by _ _ _ Second turn).0))
