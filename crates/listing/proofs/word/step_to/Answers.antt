use Prim.Native.Nat.{◌-◌, ◌<◌}
use native.Mathlib.Omega.{arith}
use Rattle.listing.proofs.Steps.{At, at-start, in-set, at_next, leads, countable, target-exact}
use Rattle.listing.proofs.word.step_to.Goals as goal
use Rattle.listing.proofs.word.step_to.Goals.{After-first_letter-x, After-first_letter-x-in-loop-here}

-- at the first letter
first : (c : After-first_letter-x) → let s = c.args in
    At s.t.now s.r s.n c.first_letter-x.result c.longer-left.result c.letter_set-set.result
first c =
    let (listable, longer, below) = c.requires in
    at-start listable below longer c.longer-left.ensures c.letter_set-set.ensures c.first_letter-x.ensures

pub target_count-here-requires : goal.target_count-here-requires
target_count-here-requires c =
    let (listable, longer, below) = c.requires in
    countable listable below (first c)

pub loop-here-init : goal.loop-here-init
loop-here-init c =
    let (listable, longer, below) = c.requires in
    (first (goal.at.loop-here-init c).After-first_letter-x, target-exact listable below (first (goal.at.loop-here-init c).After-first_letter-x).letter c.target_count-here.ensures)

pub without_letter-set-requires : goal.without_letter-set-requires
without_letter-set-requires c = (c.loop-here.invariant.0.letter, in-set c.loop-here.invariant.0)

next : (c : After-first_letter-x-in-loop-here) → let s = c.args in
    let l = c.loop-here in
    let x = c.first_letter-x-in-loop-here.result in
    (l.x < x) × At s.t.now s.r s.n x (l.left - l.here) c.without_letter-set.result
next c =
    let (listable, longer, below) = c.requires in
    let l = c.loop-here in
    at_next listable below l.invariant.0 l.invariant.1 (omega arith) c.without_letter-set.ensures
    c.first_letter-x-in-loop-here.ensures

pub target_count-here-requires-in-loop-here : goal.target_count-here-requires-in-loop-here
target_count-here-requires-in-loop-here c =
    let (listable, longer, below) = c.requires in
    countable listable below (next c).1

pub loop-here-smaller : goal.loop-here-smaller
loop-here-smaller c = omega (arith, next (goal.at.loop-here-smaller c).After-first_letter-x-in-loop-here)

pub loop-here-preserved : goal.loop-here-preserved
loop-here-preserved c =
    let (listable, longer, below) = c.requires in
    ((next (goal.at.loop-here-preserved c).After-first_letter-x-in-loop-here).1, target-exact listable below (next (goal.at.loop-here-preserved c).After-first_letter-x-in-loop-here).1.letter c.target_count-here-in-loop-here.ensures)

pub returns : goal.returns
returns c = leads c.loop-here.invariant.0 c.loop-here.invariant.1 (omega arith)
