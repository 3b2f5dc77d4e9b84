-- `load_lists` meets its promise: a start means that there are names already, and else the list is filled with those of both. Assumes nothing.
use native.Mathlib.Omega.{arith}
use Rattle.rows.proofs.Rules.{sound-length, start-inside}
use Rattle.filling.proofs.Outcomes.{load-not-empty}
use Rattle.filling.proofs.loads.load_lists.Goals as goal

pub start-requires : goal.start-requires
start-requires c =
    let (given, _) = c.requires in
    start-inside _ (sound-length _ given.sound) _ given.mission

pub returns-then-start-ne0 : goal.returns-then-start-ne0
returns-then-start-ne0 c =
    let (given, _) = c.requires in
    load-not-empty _ _ _ _ given (omega (arith, c.start.ensures))

pub fill_lists-requires : goal.fill_lists-requires
fill_lists-requires c =
    let (given, indexed) = c.requires in
    (given, indexed, omega (arith, c.start.ensures))

pub returns : goal.returns
returns c = c.fill_lists.ensures
