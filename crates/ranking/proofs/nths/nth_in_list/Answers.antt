-- `nth_in_list` meets its promise: on a sound book and for a buffer that is long enough only refusals 9 and 10 are left. The number of names
-- settles them, and then the counts of the rows serve to write the name. Assumes nothing.
use Prim.Native.Nat.{◌<◌}
use mathlib.Core.Path.{refl, sym}
use native.Mathlib.Omega.{arith}
use borrow.Author.Tests.{lt-ltb, le-ltb, le-leb, lt-leb}
use Rattle.std.proofs.lemmas.Result.{err_from_is_err_and}
use lib.ListN.{length}
use Rattle.letters.specs.Words.{Word, bytes_of}
use Rattle.model.specs.Lists.{nth_of}
use Rattle.model.specs.Call.Call.{nth}
use Rattle.sets.specs.Cut.{most_names}
use Rattle.model.specs.Run.{run}
use Rattle.model.proofs.Refusals.{mission-under}
use Rattle.rows.specs.Words.{words}
use Rattle.rows.proofs.Rules.{sound-length}
use Rattle.answers.specs.declared.cases.Refusal.TheVariants.{TooMany, NotUnder}
use Rattle.ranking.proofs.Outcomes.{list-words, name-short, put_refused, put-done}
use Rattle.ranking.proofs.nths.nth_in_list.Goals as goal
use Rattle.ranking.proofs.nths.nth_in_list.Goals.{After-start-r}

pub returns-in_err-names : goal.returns-in_err-names
unfolding run
returns-in_err-names c =
    let (s, h, long) = c.requires in
    let error = err_from_is_err_and c.from_residual.result c.from_residual.ensures.1 in
    let (nine, over) = c.in_err-names.ensures.over in
    rw (error.1, error.2, nine)
    (put_refused _ (nth _ _ _) _ refl TooMany (rw (sound-length _ s, mission-under _ h, le-ltb _ _ long, s, lt-ltb most_names _ over)))

pub returns-then-names-n : goal.returns-then-names-n
unfolding run
returns-then-names-n c =
    let (s, h, long) = c.requires in
    put_refused _ (nth _ _ _) _ refl NotUnder
    (rw (
      sound-length _ s,
      mission-under _ h,
      le-ltb _ _ long,
      s,
      le-ltb most_names _ c.in_ok-names.ensures.few,
      sym c.in_ok-names.ensures.number,
      le-leb c.in_ok-names.names c.args.n (omega arith),
    ))

-- n is under the count
under : (c : After-start-r) →
    let args = c.args in
    args.n < length (words args.t.now c.start-r.result)
under c =
    rw (← list-words c.args.t.now c.args.m _ c.requires.1 c.start-r.ensures) (omega (arith, c.in_ok-names.ensures.number))

pub write_word-requires : goal.write_word-requires
write_word-requires c =
    let (s, h, long) = c.requires in
    let (counts, counted) = c.in_ok-names.ensures.counted in
    let few = rw (list-words c.args.t.now c.args.m _ h c.start-r.ensures) at c.in_ok-names.ensures.few in
    (record { counted = counts; row = rw c.start-r.ensures counted; few = few }, under (goal.at.write_word-requires c).After-start-r, long)

pub overflow_cast-result : goal.overflow_cast-result
overflow_cast-result c =
    omega (arith, c.write_word.ensures.long, name-short _ _ _ (under (goal.at.overflow_cast-result c).After-start-r))

pub returns : goal.returns
unfolding run
returns c =
    let (s, h, long) = c.requires in
    let w : Word = nth_of c.args.n (words c.args.t.now c.start-r.result) in
    put-done _ (nth _ _ _) _ refl _ _ (length w) (bytes_of w)
    (rw (
      sound-length _ s,
      mission-under _ h,
      le-ltb _ _ long,
      s,
      le-ltb most_names _ c.in_ok-names.ensures.few,
      list-words c.args.t.now c.args.m _ h c.start-r.ensures,
      lt-leb _ _ (under (goal.at.returns c).After-start-r),
    ))
    c.write_word.ensures.long c.write_word.ensures.buffer
