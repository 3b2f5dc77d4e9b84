-- `places_after` meets its promise: where it is a list's turn, that list has a name left, which ends inside it; so one byte more still counts.
-- Assumes nothing.
use Prim.Native.Nat.{ℕ, ◌≤◌, ◌<◌}
use native.Mathlib.Nat.{le_of_lt}
use mathlib.Core.Path.{◌≡◌, sym, ◌∙◌}
use mathlib.Core.List.{List}
use borrow.Author.Rules.{rules}
use lib.ListN.{length}
use Rattle.letters.specs.Lists.{name_end}
use Rattle.letters.proofs.Lines.{name_end-le}
use Rattle.merging.specs.declared.places.Turn.TheVariants.{First, Second, Both}
use Rattle.merging.proofs.Turns.{left_by}
use Rattle.merging.proofs.lists.TwoLists.places_after.Goals as goal

-- a name ends inside its list
inside : (list : List ℕ) (at end : ℕ) → end ≡ name_end list at → at < length list → end ≤ length list
inside list at end e some = rw e (name_end-le list at (le_of_lt some))

pub overflow_add-result : goal.overflow_add-result
overflow_add-result c =
    let some = (left_by _ _ _ First (sym c.whose_turn.ensures ∙ c.in-First.is)).0 in
    let ends = inside _ _ _ c.name_end.ensures some in
    search rules

pub overflow_add-result-in-Both : goal.overflow_add-result-in-Both
overflow_add-result-in-Both c =
    let some = (left_by _ _ _ Both (sym c.whose_turn.ensures ∙ c.in-Both.is)).0 in
    let ends = inside _ _ _ c.name_end-in-Both.ensures some in
    search rules

pub overflow_add-result-in-Both-2 : goal.overflow_add-result-in-Both-2
overflow_add-result-in-Both-2 c =
    let some = (left_by _ _ _ Both (sym c.whose_turn.ensures ∙ c.in-Both.is)).1 in
    let ends = inside _ _ _ c.name_end-in-Both-2.ensures some in
    search rules

pub overflow_add-result-in-Second : goal.overflow_add-result-in-Second
overflow_add-result-in-Second c =
    let some = (left_by _ _ _ Second (sym c.whose_turn.ensures ∙ c.in-Second.is)).0 in
    let ends = inside _ _ _ c.name_end-in-Second.ensures some in
    search rules
