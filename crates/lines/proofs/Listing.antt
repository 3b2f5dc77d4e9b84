-- 01's listing holds of the definitions, to the byte: the checker runs the input on sixteen plain sets and compares what is printed.
-- Assumes nothing.
use mathlib.Core.Path.{◌≡◌, refl}
use Rattle.letters.specs.Letters.{letter, byte_of}
use Rattle.letters.specs.Words.{order}
use Rattle.letters.specs.Names.{is_name, is_prefix}
use Rattle.letters.specs.Lists.{lines_of, lines}
use Rattle.sets.specs.Sets.{member, keep, insert}
use Rattle.sets.specs.Below.{over}
use Rattle.sets.specs.Residuals.{after, residuals, longest_word, all_residuals, alike, distinct, states, need}
use Rattle.model.specs.Run.{run}
use Rattle.printing.specs.Decimal.{digits_in, decimal}
use Rattle.lines.specs.Requests.{request_of}
use Rattle.lines.specs.Sessions.{prints}
use Rattle.lines.specs.Listing.{listing_input, listing_output}

pub listing-holds : prints listing_input ≡ listing_output
unfolding
    letter byte_of order is_name is_prefix lines_of member keep insert after over residuals longest_word all_residuals alike distinct states need run lines digits_in decimal
    request_of prints
listing-holds = refl
