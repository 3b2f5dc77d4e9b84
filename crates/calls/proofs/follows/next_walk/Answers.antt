-- `next_walk` meets its promise: the walk of the word answers, or the bytes are no prefix. Assumes nothing.
use native.Mathlib.Omega.{arith}
use Rattle.std.proofs.lemmas.Grind.{common_steps}
use Rattle.std.proofs.lemmas.Result.{err_from_is_err_and}
use Rattle.letters.specs.Names.{is_prefix}
use Rattle.rows.proofs.Rules.{start-inside}
use Rattle.calls.proofs.follows.next_walk.Goals as goal

pub walk_word-requires : goal.walk_word-requires
walk_word-requires c = start-inside _ c.requires.0 _ c.requires.1

pub returns-in_err-end : goal.returns-in_err-end
unfolding is_prefix
returns-in_err-end c = grind (arith, common_steps, err_from_is_err_and c.from_residual.result c.from_residual.ensures.1)

pub returns : goal.returns
unfolding is_prefix
returns c = grind (arith, common_steps)
