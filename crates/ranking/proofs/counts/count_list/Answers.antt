-- `count_list` meets its promise: on a sound book only refusal 9 is left, and the number of names settles it and answers. Assumes nothing.
use borrow.Author.Tests.{lt-ltb, le-ltb}
use Rattle.std.proofs.lemmas.Result.{err_from_is_err_and}
use Rattle.sets.specs.Cut.{most_names}
use Rattle.model.specs.Run.{run}
use Rattle.model.proofs.Refusals.{mission-under}
use Rattle.rows.proofs.Rules.{sound-length}
use Rattle.ranking.proofs.counts.count_list.Goals as goal

pub returns-in_err-names : goal.returns-in_err-names
unfolding run
returns-in_err-names c =
    let (s, h) = c.requires in
    let error = err_from_is_err_and c.from_residual.result c.from_residual.ensures.1 in
    let (nine, over) = c.in_err-names.ensures.over in
    rw (error.1, error.2, nine, sound-length _ s, mission-under _ h, s, lt-ltb most_names _ over)

pub returns : goal.returns
unfolding run
returns c =
    let (s, h) = c.requires in
    rw (sound-length _ s, mission-under _ h, s, le-ltb most_names _ c.in_ok-names.ensures.few, c.in_ok-names.ensures.number)
