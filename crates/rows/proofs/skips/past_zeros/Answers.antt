-- `past_zeros` meets its promise: the numbers that both loops skip are 0. Assumes nothing.
use Rattle.rows.proofs.Skipping.{skipped-both}
use Rattle.rows.proofs.skips.past_zeros.Goals as goal

pub returns : goal.returns
returns c = skipped-both c.past_eights-e.ensures.before c.past_ones.ensures
