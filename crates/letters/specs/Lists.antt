-- Lists for load: their lines, and the names that these are. Assumes nothing.
use Rattle.std.specs.Prelude.{ℕ, ◌+◌, Bool, true, cond, ◌&&◌, List, [], ◌∷◌, ◌++◌, map, leb, eqb, length, drop}
use Rattle.letters.specs.Each.{every}
use Rattle.letters.specs.Letters.{line_end}
use Rattle.letters.specs.Words.{Word, word_of, bytes_of, before}
use Rattle.letters.specs.Names.{is_name}

-- "at most 65,535 bytes"
abbrev pub longest_list : ℕ
longest_list = 65535

-- the bytes before the first line end
unfoldable pub up_to_end : List ℕ → List ℕ
up_to_end [] = []
up_to_end (b ∷ bytes) = cond (eqb b line_end) [] (b ∷ up_to_end bytes)

-- the bytes of the name that starts at a place, and where they end
abbrev pub name_at : List ℕ → ℕ → List ℕ
name_at bytes at = up_to_end (drop at bytes)

abbrev pub name_end : List ℕ → ℕ → ℕ
name_end bytes at = at + length (name_at bytes at)

-- one byte more at the front of the first line
abbrev pub on_first : ℕ → List (List ℕ) → List (List ℕ)
on_first b [] = (b ∷ []) ∷ []
on_first b (line ∷ more) = (b ∷ line) ∷ more

-- the lines, without their ends
unfoldable pub lines_of : List ℕ → List (List ℕ)
lines_of [] = []
lines_of (b ∷ bytes) = cond (eqb b line_end) ([] ∷ lines_of bytes) (on_first b (lines_of bytes))

-- "each name followed by 0x0A": the last one too
unfoldable pub ended : List ℕ → Bool
ended [] = true
ended (b ∷ []) = eqb b line_end
ended (b ∷ c ∷ bytes) = ended (c ∷ bytes)

-- "names strictly rising": each word stands before the next
unfoldable pub rises : List Word → Bool
rises [] = true
rises (u ∷ []) = true
rises (u ∷ v ∷ words) = before u v && rises (v ∷ words)

-- the words of a list for load
abbrev pub names_of : List ℕ → List Word
names_of bytes = map word_of (lines_of bytes)

-- "each name followed by 0x0A": a word's line, and one line after another
abbrev pub line : Word → List ℕ
line w = bytes_of w ++ line_end ∷ []

unfoldable pub lines : List Word → List ℕ
lines [] = []
lines (w ∷ words) = line w ++ lines words

-- "A list for load is bytes: each name followed by 0x0A, names strictly rising, at most 65,535 bytes. No bytes is the empty list."
unfoldable pub is_list : List ℕ → Bool
is_list bytes = leb (length bytes) longest_list && (ended bytes && (every is_name (lines_of bytes) && rises (names_of bytes)))
