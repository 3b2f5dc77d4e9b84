-- `fill_lists` meets its promise: the row that was built has the names of both lists, and settling it is the model's change; where no row is free,
-- there is no room. Assumes nothing.
use native.Mathlib.Omega.{arith}
use borrow.Author.Rules.{rules}
use Rattle.rows.proofs.Rules.{sound-facts}
use Rattle.ending.proofs.Reached.{made-reached}
use Rattle.filling.proofs.Outcomes.{loaded-few, load-fills, filled-full, filled-startable, filled-settled}
use Rattle.filling.proofs.loads.fill_lists.Goals as goal

pub name_count-names-requires : goal.name_count-names-requires
name_count-names-requires c = let given = c.requires.0 in (given.listed, given.also)

pub overflow_cast-names : goal.overflow_cast-names
overflow_cast-names c =
    let few = loaded-few _ _ _ _ c.requires.0 in
    search rules

pub build_lists-requires : goal.build_lists-requires
build_lists-requires c =
    let (given, indexed, _) = c.requires in
    ((sound-facts _ given.sound).tidy, indexed, given.listed, given.also)

pub settle-requires : goal.settle-requires
settle-requires c =
    let (given, _, empty) = c.requires in
    let made = rw c.in-Ok.is at c.build_lists.ensures.makes in (
      made.grows.tidy,
      c.build_lists.ensures.indexed,
      omega (arith, given.mission),
      filled-startable (load-fills _ _ _ _ given empty) _ _ _ made,
      made-reached _ given.sound made,
    )

pub no_room-requires : goal.no_room-requires
no_room-requires c =
    let full = rw c.in-Err.is at c.build_lists.ensures.makes in
    full.grows.tidy

pub returns-in-Ok : goal.returns-in-Ok
returns-in-Ok c =
    let (given, _, empty) = c.requires in
    let made = rw c.in-Ok.is at c.build_lists.ensures.makes in
    rw (c.settled.ensures, c.name_count-names.ensures)
    (filled-settled (load-fills _ _ _ _ given empty) _ _ _ made _ _ c.settle.ensures)

pub returns-in-Err : goal.returns-in-Err
returns-in-Err c =
    let (given, _, empty) = c.requires in
    let full = rw c.in-Err.is at c.build_lists.ensures.makes in
    rw c.no_room.ensures.answer (filled-full (load-fills _ _ _ _ given empty) _ _ _ full c.no_room.ensures.table)
