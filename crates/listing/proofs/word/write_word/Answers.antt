use native.Mathlib.Omega.{arith}
use mathlib.Core.Path.{sym, ◌∙◌}
use Rattle.listing.proofs.Spelling.{begun-none, next-lower, inside, begun_more, begun-whole}
use Rattle.listing.proofs.word.write_word.Goals as goal

pub loop-s-init : goal.loop-s-init
loop-s-init c = let (listable, below, fits) = c.requires in begun-none _ listable below

pub bounds-out-i : goal.bounds-out-i
bounds-out-i c =
    let (listable, below, fits) = c.requires in
    let s = c.loop-s.invariant in
    omega (arith, inside s c.step_to-s.ensures fits, s.front.long)

pub loop-s-smaller : goal.loop-s-smaller
loop-s-smaller c =
    rw c.target-row.ensures (next-lower c.loop-s.invariant c.step_to-s.ensures)

pub loop-s-preserved : goal.loop-s-preserved
loop-s-preserved c =
    let (listable, below, fits) = c.requires in
    rw (c.byte_of.ensures, c.target-row.ensures)
    (begun_more c.loop-s.invariant c.step_to-s.ensures fits)

pub returns : goal.returns
returns c =
    let (listable, below, fits) = c.requires in
    let here = sym c.is_here.ensures ∙ c.loop-s-test.false in
    let whole = begun-whole c.loop-s.invariant fits here in
    record { long = whole.0; buffer = whole.1 }
