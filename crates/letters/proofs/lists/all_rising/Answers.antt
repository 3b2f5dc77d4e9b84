use Prim.Native.Nat.{◌+◌, ◌-◌}
use mathlib.Core.Path.{◌≡◌, sym, ◌∙◌}
use mathlib.Core.Bool.{◌&&◌}
use native.Mathlib.Omega.{arith}
use lib.ListN.{take, drop, drop_of_length-le}
use Rattle.letters.specs.Lists.{lines_of, rises, names_of}
use Rattle.letters.proofs.Lines.{name-part, name_end-le, rises-more, rises-last}
use Rattle.letters.proofs.lists.all_rising.Goals as goal
use Rattle.letters.proofs.lists.all_rising.Goals.{After-is_before}

pub returns-then-s-eq0 : goal.returns-then-s-eq0
unfolding rises lines_of
returns-then-s-eq0 c = rw (drop_of_length-le c.args.s.now {i = 0} (omega arith))

-- a line ends within the list
pub overflow_add-end : goal.overflow_add-end
overflow_add-end c =
    let inv = c.loop-end.invariant in
    omega (arith, name_end-le c.args.s.now c.loop-end.at (omega (arith, inv.0)), inv.1)

-- and so does the next one
pub slice_bounds-is_before-end-in-loop-end : goal.slice_bounds-is_before-end-in-loop-end
slice_bounds-is_before-end-in-loop-end c =
    omega (arith, name_end-le c.args.s.now (c.loop-end.end + 1) (omega (arith, c.loop-end-test.true)), c.name_end-next_end.ensures)

-- once the two names are compared
compared : (c : After-is_before) →
    let s = c.args.s.now in
    rises (names_of s) ≡ (c.is_before.result && rises (names_of (drop (c.loop-end.end + 1) s)))
compared c =
    let s = c.args.s.now in
    let at = c.loop-end.at in
    let end = c.loop-end.end in
    let inv = c.loop-end.invariant in
    inv.2
    ∙ rises-more s at (end + 1) (take (end - at) (drop at s)) (take (c.name_end-next_end.result - (end + 1)) (drop (end + 1) s)) inv.0 (rw inv.1)
    c.loop-end-test.true (rw inv.1 (name-part s at)) (rw c.name_end-next_end.ensures (name-part s (end + 1)))
    ∙ rw c.is_before.ensures

pub returns-then-not-is_before : goal.returns-then-not-is_before
returns-then-not-is_before c = rw (compared (goal.at.returns-then-not-is_before c).After-is_before, c.if-not-is_before.true)

pub loop-end-preserved : goal.loop-end-preserved
loop-end-preserved c = (
  c.loop-end-test.true,
  c.name_end-next_end.ensures,
  rw (compared (goal.at.loop-end-preserved c).After-is_before, c.if-not-is_before.false),
)

pub returns : goal.returns
returns c =
    let inv = c.loop-end.invariant in
    sym (inv.2 ∙ rises-last _ _ inv.0 (rw inv.1 at c.loop-end-test.false))
