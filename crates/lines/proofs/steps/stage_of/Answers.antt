-- `stage_of` meets its promise: its tests are those of the definition, in the same order. Assumes nothing.
use mathlib.Core.Path.{◌≡◌, sym, ◌∙◌}
use mathlib.Core.Bool.{true}
use native.Mathlib.Omega.{arith}
use borrow.Author.Tests.{le-leb, lt-leb, eq-eqb, ne_eqb}
use lib.Dec.{leb}
use lib.ListN.{length}
use Rattle.lines.specs.Steps.{most_input, ready, stage_of}
use Rattle.lines.proofs.steps.stage_of.Goals as goal
use Rattle.lines.proofs.steps.stage_of.Goals.{Else-input-ge-INPUT, Else-not-is_ready}

pub returns-then-not-is_ready : goal.returns-then-not-is_ready
unfolding stage_of
returns-then-not-is_ready c = let idle = sym c.is_ready.ensures ∙ c.if-not-is_ready.true in rw idle

passed : (c : Else-not-is_ready) → let s = c.args in ready s.t.now s.place s.size ≡ true
passed c = sym c.is_ready.ensures ∙ c.if-not-is_ready.false

short-enough : (c : Else-input-ge-INPUT) → leb (length c.args.input.now) most_input ≡ true
short-enough c = le-leb (length c.args.input.now) most_input (omega arith)

pub returns-then-input-ge-INPUT : goal.returns-then-input-ge-INPUT
unfolding stage_of
returns-then-input-ge-INPUT c = rw (passed (goal.at.returns-then-input-ge-INPUT c).Else-not-is_ready, lt-leb _ _ c.if-input-ge-INPUT.true)

pub returns-then-place-eq0 : goal.returns-then-place-eq0
unfolding stage_of
returns-then-place-eq0 c =
    rw (passed (goal.at.returns-then-place-eq0 c).Else-not-is_ready, short-enough (goal.at.returns-then-place-eq0 c).Else-input-ge-INPUT, eq-eqb _ _ c.if-place-eq0.true)

pub returns-then-input-place : goal.returns-then-input-place
unfolding stage_of
returns-then-input-place c =
    rw (passed (goal.at.returns-then-input-place c).Else-not-is_ready, short-enough (goal.at.returns-then-input-place c).Else-input-ge-INPUT, ne_eqb _ _ c.if-place-eq0.false, le-leb _ _ c.if-input-place.true)

pub returns : goal.returns
unfolding stage_of
returns c =
    rw (passed (goal.at.returns c).Else-not-is_ready, short-enough (goal.at.returns c).Else-input-ge-INPUT, ne_eqb _ _ c.if-place-eq0.false, lt-leb _ _ c.if-input-place.false)
