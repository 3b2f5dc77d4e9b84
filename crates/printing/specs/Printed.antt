-- What the desk program prints for a line. Assumes nothing.
use Rattle.std.specs.Prelude.{ℕ, List, [], ◌∷◌, ◌++◌}
use Rattle.letters.specs.Letters.{line_end}
use Rattle.printing.specs.Decimal.{decimal}

abbrev pub space : ℕ
space = 0x20

-- "a space, the number", and so the value
abbrev pub field : ℕ → List ℕ
field n = space ∷ decimal n

-- "It prints the line, a space, the number, a space, the value."
abbrev pub answer_line : List ℕ → ℕ → ℕ → List ℕ
answer_line line number value = line ++ field number ++ field value ++ line_end ∷ []

-- "For any other line it prints `! ` and the line's number from 1." 0x21 is `!`.
abbrev pub other_line : ℕ → List ℕ
other_line n = 0x21 ∷ field n ++ line_end ∷ []

-- so many bytes suffice behind the line: two spaces, two numbers under 2 to the power 64, which have at most twenty digits, and the line's end
abbrev pub spare : ℕ
spare = 43
