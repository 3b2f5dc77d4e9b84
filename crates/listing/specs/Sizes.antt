-- An array with the number of bytes from each row that is counted. Assumes nothing.
use Rattle.std.specs.Prelude.{ℕ, suc, min, List, length}
use Rattle.letters.specs.Lists.{longest_list, lines}
use Rattle.rows.specs.Table.{Table}
use Rattle.rows.specs.Words.{words}
use Rattle.counting.specs.Counts.{Numbered, NumberedMore}

-- a number of bytes, or 65,536 for any above 65,535
abbrev pub cut_size : ℕ → ℕ
cut_size n = min n (suc longest_list)

-- how many bytes the words from n have, "each name followed by 0x0A", cut
abbrev pub byte_count : Table → ℕ → ℕ
byte_count t n = cut_size (length (lines (words t n)))

-- the number of each row is that of the bytes from it
abbrev pub Sizes : Table → List ℕ → Type 0
Sizes t sizes = Numbered t (byte_count t) sizes

abbrev pub SizesMore : Table → ℕ → List ℕ → List ℕ → Type 0
SizesMore t n before after = NumberedMore t (byte_count t) n before after
