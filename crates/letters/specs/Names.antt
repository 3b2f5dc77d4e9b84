-- Names and prefixes, as bytes. Assumes nothing.
use Rattle.std.specs.Prelude.{ℕ, Bool, ◌&&◌, List, leb, ltb, length}
use Rattle.letters.specs.Each.{every}
use Rattle.letters.specs.Letters.{letters, letter}

-- the letters of the longest name
abbrev pub longest : ℕ
longest = 24

-- every byte is a letter
abbrev pub spelled : List ℕ → Bool
spelled bytes = every (λ b. ltb (letter b) letters) bytes

-- "the prefix given to next may be empty and has at most 24 letters"
abbrev pub long_as_prefix : List ℕ → Bool
long_as_prefix bytes = leb (length bytes) longest

unfoldable pub is_prefix : List ℕ → Bool
is_prefix bytes = long_as_prefix bytes && spelled bytes

-- "A name has 1 to 24 letters. The empty word is no name"
abbrev pub long_as_name : List ℕ → Bool
long_as_name bytes = leb 1 (length bytes) && long_as_prefix bytes

unfoldable pub is_name : List ℕ → Bool
is_name bytes = long_as_name bytes && spelled bytes
