-- `fill_combined` meets its promise: the row of the pair has the names of the result, and settling it is the model's change; where no row is free,
-- there is no room. Assumes nothing.
use native.Mathlib.Omega.{arith}
use Rattle.rows.proofs.Rules.{sound-facts, sound-length, start-inside}
use Rattle.rows.proofs.Books.{start-named}
use Rattle.ending.proofs.Reached.{made-reached}
use Rattle.filling.proofs.Outcomes.{first, second, third, combine-fills, combined-value, filled-full, filled-startable, filled-settled}
use Rattle.filling.proofs.combines.fill_combined.Goals as goal

pub start-p-requires : goal.start-p-requires
start-p-requires c =
    let (given, _, _) = c.requires in
    start-inside _ (sound-length _ given.sound) _ (first _ _ _ _ _ given)

pub start-q-requires : goal.start-q-requires
start-q-requires c =
    let (given, _, _) = c.requires in
    start-inside _ (sound-length _ given.sound) _ (second _ _ _ _ _ given)

pub combine_rows-requires : goal.combine_rows-requires
combine_rows-requires c =
    let (given, indexed, _) = c.requires in
    let tidy = (sound-facts _ given.sound).tidy in
    rw (c.start-p.ensures, c.start-q.ensures) (
      record {
        tidy = tidy;
        first = start-named _ tidy c.args.a (first _ _ _ _ _ given);
        second = start-named _ tidy c.args.b (second _ _ _ _ _ given);
      },
      indexed,
    )

pub settle-requires : goal.settle-requires
settle-requires c =
    let (given, _, empty) = c.requires in
    let made = rw (c.in-Ok.is, c.start-p.ensures, c.start-q.ensures) at c.combine_rows.ensures.makes in (
      made.grows.tidy,
      c.combine_rows.ensures.indexed,
      omega (arith, third _ _ _ _ _ given),
      filled-startable (combine-fills _ _ _ _ _ given empty) _ _ _ made,
      made-reached _ given.sound made,
    )

pub no_room-requires : goal.no_room-requires
no_room-requires c =
    let full = rw c.in-Err.is at c.combine_rows.ensures.makes in
    full.grows.tidy

pub returns-in-Ok : goal.returns-in-Ok
returns-in-Ok c =
    let (given, _, empty) = c.requires in
    let made =
    rw (c.in-Ok.is, c.start-p.ensures, c.start-q.ensures) at c.combine_rows.ensures.makes
    in
    rw (c.settled.ensures, c.has_names.ensures, combined-value _ made)
    (filled-settled (combine-fills _ _ _ _ _ given empty) _ _ _ made _ _ c.settle.ensures)

pub returns-in-Err : goal.returns-in-Err
returns-in-Err c =
    let (given, _, empty) = c.requires in
    let full =
    rw (c.in-Err.is, c.start-p.ensures, c.start-q.ensures) at c.combine_rows.ensures.makes
    in
    rw c.no_room.ensures.answer (filled-full (combine-fills _ _ _ _ _ given empty) _ _ _ full c.no_room.ensures.table)
