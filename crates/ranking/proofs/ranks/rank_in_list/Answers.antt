-- `rank_in_list` meets its promise: on a sound book and for a name only refusal 9 is left. The number of names settles it, and then the counts
-- of the rows serve to find how many words of the mission's start stand before the name. Assumes nothing.
use borrow.Author.Tests.{lt-ltb, le-ltb}
use Rattle.std.proofs.lemmas.Result.{err_from_is_err_and}
use Rattle.letters.proofs.Words.{name-parts}
use Rattle.sets.specs.Cut.{most_names}
use Rattle.model.specs.Run.{run}
use Rattle.model.proofs.Refusals.{mission-under}
use Rattle.rows.proofs.Rules.{sound-length}
use Rattle.ranking.proofs.Outcomes.{list-words}
use Rattle.ranking.proofs.ranks.rank_in_list.Goals as goal

pub returns-in_err-counted : goal.returns-in_err-counted
unfolding run
returns-in_err-counted c =
    let (s, h, n) = c.requires in
    let error = err_from_is_err_and c.from_residual.result c.from_residual.ensures.1 in
    let (nine, over) = c.in_err-counted.ensures.over in
    rw (error.1, error.2, nine, sound-length _ s, mission-under _ h, n, s, lt-ltb most_names _ over)

pub rank_from-requires : goal.rank_from-requires
rank_from-requires c =
    let (s, h, n) = c.requires in
    let (counts, counted) = c.in_ok-counted.ensures.counted in
    let few = rw (list-words c.args.t.now c.args.m _ h c.start-r.ensures) at c.in_ok-counted.ensures.few in
    (counts, rw c.start-r.ensures counted, few, (name-parts _ n).2)

pub returns : goal.returns
unfolding run
returns c =
    let (s, h, n) = c.requires in
    rw (
      sound-length _ s,
      mission-under _ h,
      n,
      s,
      le-ltb most_names _ c.in_ok-counted.ensures.few,
      list-words c.args.t.now c.args.m _ h c.start-r.ensures,
      c.rank_from.ensures,
    )
