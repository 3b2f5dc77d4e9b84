-- P1 to P12 of 01 hold: the checker runs every script of the table on the model and compares. Assumes nothing.
use mathlib.Core.Path.{◌≡◌, refl}
use mathlib.Core.Bool.{true}
use Rattle.letters.specs.Letters.{letter, byte_of}
use Rattle.letters.specs.Words.{order}
use Rattle.letters.specs.Names.{is_name, is_prefix}
use Rattle.letters.specs.Lists.{lines_of, ended, rises, is_list}
use Rattle.letters.specs.LetterSet.{sum_of, count_of}
use Rattle.sets.specs.Sets.{member, keep, insert, delete, both, common, without}
use Rattle.sets.specs.Below.{over}
use Rattle.sets.specs.Residuals.{after, residuals, longest_word, all_residuals, alike, distinct, states, need}
use Rattle.model.specs.Prefixes.{shared, how_far}
use Rattle.model.specs.Run.{run}
use Rattle.examples.specs.Script.{passes, passes_all}
use Rattle.examples.specs.Table.{table}

pub examples-hold : passes_all table ≡ true
unfolding
    letter byte_of order is_name is_prefix lines_of ended rises is_list sum_of count_of member keep insert delete both common without after over residuals
    longest_word all_residuals alike distinct states need shared how_far run passes
examples-hold = refl
