-- `depth_of` meets its promise: one more than what a name shares with another fits, as it is at most its length. Assumes nothing.
use native.Mathlib.Omega.{arith}
use lib.ListN.{length-map}
use Rattle.letters.specs.Letters.{letter}
use Rattle.letters.specs.Words.{word_of}
use Rattle.model.proofs.Prefixes.{shared_long}
use Rattle.building.proofs.depths.depth_of.Goals as goal

pub overflow_add-result : goal.overflow_add-result
overflow_add-result c =
    let name = c.args.name.now in
    omega (arith, c.shared_letters.ensures, shared_long (word_of name) (word_of c.args.next.now), length-map name letter)
