-- `step` meets its promise: in each branch the stage is known, with the tests that led to it, and what was done there is what the stage says.
-- Assumes nothing.
use native.Mathlib.Omega.{arith}
use mathlib.Core.Path.{◌≡◌, refl, sym, ◌∙◌}
use lib.ListN.{length}
use Rattle.lines.specs.declared.steps.Stage.{Stage}
use Rattle.lines.specs.Steps.{stage_of}
use Rattle.lines.proofs.Stages.{Given, given}
use Rattle.lines.proofs.steps.step.Goals as goal
use Rattle.lines.proofs.steps.step.Goals.{After-stage_of}

found : (c : After-stage_of) {stage : Stage} → c.stage_of.result ≡ stage
    → let s = c.args in stage_of s.t.now s.input.now s.place (length s.out.now) ≡ stage
found c told = sym c.stage_of.ensures ∙ told

known : (c : After-stage_of) {stage : Stage} → c.stage_of.result ≡ stage
    → let s = c.args in Given s.t.now s.input.now s.place (length s.out.now) stage
known c told = let s = c.args in given s.t.now s.input.now s.place (length s.out.now) (found c told)

pub say_long-requires : goal.say_long-requires
say_long-requires c =
    let (ready, long) = known (goal.at.say_long-requires c).After-stage_of c.in-Long.is in
    omega arith

pub begin-requires : goal.begin-requires
begin-requires c =
    (known (goal.at.begin-requires c).After-stage_of c.in-First.is).0.long

pub answer_line-requires : goal.answer_line-requires
answer_line-requires c =
    let (lines, inside) = known (goal.at.answer_line-requires c).After-stage_of c.in-Line.is in
    (inside, lines.ready.line, omega arith)

pub returns-in-Over : goal.returns-in-Over
returns-in-Over c =
    let stage = found (goal.at.returns-in-Over c).After-stage_of c.in-Over.is in
    rw stage (record { next = c.over_after.ensures; buffer = refl; table = refl })

pub returns-in-Long : goal.returns-in-Long
returns-in-Long c =
    let stage = found (goal.at.returns-in-Long c).After-stage_of c.in-Long.is in
    let (long, buffer) = c.say_long.ensures in
    rw stage (record { next = c.over_after-in-Long.ensures ∙ rw long; buffer = buffer; table = refl })

pub returns-in-First : goal.returns-in-First
returns-in-First c =
    let stage = found (goal.at.returns-in-First c).After-stage_of c.in-First.is in
    let (place, table) = c.begin.ensures in
    rw stage (record { next = place; buffer = refl; table = table })

pub returns-in-Line : goal.returns-in-Line
returns-in-Line c =
    let stage = found (goal.at.returns-in-Line c).After-stage_of c.in-Line.is in
    rw stage c.answer_line.ensures
