-- `clear_list` meets its promise: with no start there was no name, and else settling with no row is the model's change. Assumes nothing.
use native.Mathlib.Omega.{arith}
use Rattle.rows.proofs.Rules.{sound-facts, sound-length, start-inside}
use Rattle.settling.proofs.Settling.{no-row-startable}
use Rattle.ending.proofs.Reached.{all-reached}
use Rattle.changing.proofs.Outcomes.{clear_none, clear-settled}
use Rattle.changing.proofs.clears.clear_list.Goals as goal

pub start-requires : goal.start-requires
start-requires c = let (sound, indexed, mission) = c.requires in start-inside _ (sound-length _ sound) _ mission

pub returns-then-start-eq0 : goal.returns-then-start-eq0
returns-then-start-eq0 c =
    let (sound, indexed, mission) = c.requires in
    clear_none _ sound _ mission (omega (arith, c.start.ensures))

pub settle-requires : goal.settle-requires
settle-requires c =
    let (sound, indexed, mission) = c.requires in
    ((sound-facts _ sound).tidy, indexed, mission, no-row-startable _, all-reached _ sound)

pub returns : goal.returns
returns c =
    let (sound, indexed, mission) = c.requires in
    clear-settled _ sound _ mission (omega (arith, c.start.ensures)) _ _ c.settle.ensures
