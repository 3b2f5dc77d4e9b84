-- `whose_turn` meets its promise: each list has a name left or none, and where both have one, their order decides. Assumes nothing.
use mathlib.Core.Path.{◌≡◌, sym, ◌∙◌}
use Rattle.std.specs.declared.cmp.Ordering.TheVariants.{Less, Equal, Greater}
use Rattle.std.specs.declared.cmp.Ordering.{Ordering}
use Rattle.merging.specs.Merging.{turn_of}
use Rattle.merging.proofs.Turns.{turn-neither, turn-second, turn-first, answer, turn-answer}
use Rattle.merging.proofs.lists.TwoLists.whose_turn.Goals as goal
use Rattle.merging.proofs.lists.TwoLists.whose_turn.Goals.{After-order_of}

-- the order of the two names decides
decided : (c : After-order_of) (r : Ordering) → c.order_of.result ≡ r
    → let args = c.args in
    answer r ≡ turn_of args.self.now.first.now args.self.now.second.now args.at
decided c r e =
    turn-answer _ _ _ r _ _ (sym e ∙ c.order_of.ensures) c.name_at.ensures.bytes c.name_at-2.ensures.bytes
    c.if-self-i.false c.if-self-j-2.false

pub returns-then-self-j : goal.returns-then-self-j
returns-then-self-j c = sym (turn-neither _ _ _ c.if-self-i.true c.if-self-j.true)

pub returns-then-self-i : goal.returns-then-self-i
returns-then-self-i c = sym (turn-second _ _ _ c.if-self-i.true c.if-self-j.false)

pub returns-then-self-j-2 : goal.returns-then-self-j-2
returns-then-self-j-2 c = sym (turn-first _ _ _ c.if-self-i.false c.if-self-j-2.true)

pub returns-in-Less : goal.returns-in-Less
returns-in-Less c = decided (goal.at.returns-in-Less c).After-order_of Less c.in-Less.is

pub returns-in-Equal : goal.returns-in-Equal
returns-in-Equal c = decided (goal.at.returns-in-Equal c).After-order_of Equal c.in-Equal.is

pub returns-in-Greater : goal.returns-in-Greater
returns-in-Greater c = decided (goal.at.returns-in-Greater c).After-order_of Greater c.in-Greater.is
