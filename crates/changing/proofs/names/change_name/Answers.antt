-- `change_name` meets its promise: the path's row has the list as wanted, and settling it is the model's change. It is never full. Assumes nothing.
use native.Mathlib.Omega.{arith}
use Rattle.letters.proofs.Words.{name-parts}
use Rattle.rows.proofs.Rules.{sound-facts, sound-length, start-inside}
use Rattle.rows.proofs.Books.{start-named}
use Rattle.ending.proofs.Reached.{made-reached}
use Rattle.changing.proofs.Outcomes.{never-full, path-startable, path-settled}
use Rattle.changing.proofs.names.change_name.Goals as goal

pub start-r-requires : goal.start-r-requires
start-r-requires c =
    let (given, _, _) = c.requires in
    start-inside _ (sound-length _ given.sound) _ given.mission

pub path-requires : goal.path-requires
path-requires c =
    let (given, indexed, _) = c.requires in
    let tidy = (sound-facts _ given.sound).tidy in
    let (_, short, spelled) = name-parts _ given.named in
    (tidy, indexed, rw c.start-r.ensures (start-named c.args.t.now tidy c.args.m given.mission), spelled, short)

pub settle-requires : goal.settle-requires
settle-requires c =
    let (given, _, _) = c.requires in
    let made = rw (c.in-Ok.is, c.start-r.ensures) at c.path.ensures.makes in (
      made.grows.tidy,
      c.path.ensures.indexed,
      omega (arith, given.mission),
      path-startable _ given.sound _ given.mission c.args.on _ given.named _ _ _ made,
      made-reached _ given.sound made,
    )

pub returns-in-Ok : goal.returns-in-Ok
returns-in-Ok c =
    let (given, _, other) = c.requires in
    let made = rw (c.in-Ok.is, c.start-r.ensures) at c.path.ensures.makes in
    rw c.settled.ensures
    (path-settled _ given.sound _ given.mission c.args.on _ given.named _ _ _ made other _ _ c.settle.ensures)

pub returns-in-Err : goal.returns-in-Err
returns-in-Err c =
    let (given, _, _) = c.requires in
    let full = rw c.in-Err.is at c.path.ensures.makes in
    absurd (never-full _ given.sound _ given.mission c.args.on _ given.named _ _ full)
