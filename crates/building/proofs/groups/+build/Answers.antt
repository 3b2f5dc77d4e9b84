use Prim.Native.Nat.{ℕ, ◌+◌, ◌<◌}
use native.Mathlib.Omega.{arith}
use borrow.Author.Rules.{rules}
use lib.ListN.{length}
use Rattle.std.specs.Prelude.{Ok, Err}
use Rattle.std.proofs.lemmas.Result.{err_from_is_err_and}
use Rattle.letters.specs.Letters.{letters}
use Rattle.building.specs.Groups.{Begins}
use Rattle.building.proofs.Building.{name-short, passed_none, next-begins, deeper, letter-small, passed-more, passed-less, passed-full}
use Rattle.building.proofs.Building.{passed-fits, passed-made, passed-behind}
use Rattle.building.proofs.groups.+build.Goals as goal
use Rattle.building.proofs.groups.+build.Goals.{After-letter_of-x, After-next_at-next}

pub loop-ahead-init : goal.loop-ahead-init
loop-ahead-init bound c =
    let (tidy, indexed, begins) = c.requires in
    (passed_none begins _ tidy _ c.first_ahead-ahead.ensures.places c.first_ahead-ahead.ensures.deep, indexed)

-- the next name begins with the letters of the group, and goes on
inside : (bound : ℕ) → (c : After-next_at-next bound) → c.args.depth < length c.next_at-next.result.now
inside bound c =
    deeper c.requires.2 c.loop-ahead.invariant.0 c.loop-ahead-test.true _ c.next_at-next.ensures

next-group : (bound : ℕ) → (c : After-next_at-next bound) →
    let args = c.args in
    Begins args.lists.now.first.now args.lists.now.second.now c.loop-ahead.ahead.places c.next_at-next.result.now (args.depth + 1)
next-group bound c =
    next-begins c.requires.2 c.loop-ahead.invariant.0 c.loop-ahead-test.true _ c.next_at-next.ensures

pub bounds-next-depth : goal.bounds-next-depth
bounds-next-depth bound c = inside bound (goal.at.bounds-next-depth bound c).After-next_at-next

pub build-requires : goal.build-requires
build-requires bound c =
    let (passed, indexed) = c.loop-ahead.invariant in
    let at = (goal.at.build-requires bound c).After-next_at-next in
    let next = next-group bound at in
    (omega (arith, inside bound at, name-short next, c.decreases), (passed.made.grows.tidy, indexed, next))

pub returns-in_err-group-clause-builds : goal.returns-in_err-group-clause-builds
returns-in_err-group-clause-builds bound c =
    let error = err_from_is_err_and c.from_residual.result c.from_residual.ensures.1 in
    rw error.1
    (passed-full c.requires.2 c.loop-ahead.invariant.0 c.loop-ahead-test.true _ c.next_at-next.ensures _ c.in_err-group.ensures.builds)

-- the letter that its group goes on with
small : (bound : ℕ) → (c : After-letter_of-x bound) → c.letter_of-x.result < letters
small bound c =
    rw c.letter_of-x.ensures (letter-small c.requires.2 c.loop-ahead.invariant.0 c.loop-ahead-test.true _ c.next_at-next.ensures)

pub offset_bounds-targets-x : goal.offset_bounds-targets-x
offset_bounds-targets-x bound c = let low = small bound (goal.at.offset_bounds-targets-x bound c).After-letter_of-x in search rules

pub bounds-targets-x : goal.bounds-targets-x
bounds-targets-x bound c = small bound (goal.at.bounds-targets-x bound c).After-letter_of-x

pub loop-ahead-smaller : goal.loop-ahead-smaller
loop-ahead-smaller bound c =
    passed-less c.requires.2 c.loop-ahead.invariant.0 c.loop-ahead-test.true _ c.next_at-next.ensures _ _ _ c.in_ok-group.ensures.builds

pub loop-ahead-preserved : goal.loop-ahead-preserved
loop-ahead-preserved bound c = (
  rw c.letter_of-x.ensures
      (passed-more c.requires.2 c.loop-ahead.invariant.0 c.loop-ahead-test.true _ c.next_at-next.ensures _ _ _ c.in_ok-group.ensures.builds),
  c.build.ensures.indexed,
)

pub make-requires : goal.make-requires
make-requires bound c =
    let (passed, indexed) = c.loop-ahead.invariant in
    (passed.made.grows.tidy, indexed, rw c.end_mark.ensures (passed-fits c.requires.2 passed c.loop-ahead-test.false))

pub returns-in_err-row-clause-builds : goal.returns-in_err-row-clause-builds
returns-in_err-row-clause-builds bound c =
    let error = err_from_is_err_and c.from_residual-in_err-row.result c.from_residual-in_err-row.ensures.1 in
    let full = rw c.end_mark.ensures at c.in_err-row.ensures.makes in
    rw error.1 (passed-made c.requires.2 c.loop-ahead.invariant.0 c.loop-ahead-test.false _ (Err _) full)

pub returns-clause-builds : goal.returns-clause-builds
returns-clause-builds bound c =
    let begins = c.requires.2 in
    let passed = c.loop-ahead.invariant.0 in
    let made = rw c.end_mark.ensures at c.in_ok-row.ensures.makes in
    record {
      made = passed-made begins passed c.loop-ahead-test.false _ (Ok _) made;
      behind = passed-behind begins passed c.loop-ahead-test.false;
    }
