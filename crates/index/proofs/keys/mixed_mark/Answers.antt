-- `mixed_mark` meets its promise. Assumes nothing.
use native.Mathlib.Omega.{arith}
use borrow.Author.Rules.{rules}
use Rattle.sets.specs.Below.{total}
use Rattle.index.specs.Buckets.{mix}
use Rattle.index.proofs.keys.mixed_mark.Goals as goal

pub returns : goal.returns
unfolding mix total
returns c = (omega arith, search rules)
