-- Letters: the numbers of the bytes that are letters, and the byte of a letter number. Wishes 4 and 10 change what stands here; whoever is
-- above this crate goes by the laws of `proofs/Laws.antt` alone. Assumes nothing.
use Rattle.std.specs.Prelude.{ℕ, ◌+◌, ◌-◌, Bool, cond, ◌&&◌, leb, eqb}

-- how many letters there are; as a letter number it stands for "no letter"
abbrev pub letters : ℕ
letters = 37

-- "each name followed by 0x0A"
abbrev pub line_end : ℕ
line_end = 0x0A

-- the byte or letter number b is one of those from `low` to `high`
abbrev pub within : ℕ → ℕ → ℕ → Bool
within low high b = leb low b && leb b high

-- "A letter is one byte: 0x30 to 0x39, 0x41 to 0x5A, or 0x5F." Any other byte is no letter. 02, wish 3: "Letter numbers become: underscore 0,
-- digits 1 to 10, capitals 11 to 36."
unfoldable pub letter : ℕ → ℕ
letter b =
    cond (eqb b 0x5F) 0
    (cond (within 0x30 0x39 b) (b - 0x30 + 1)
    (cond (within 0x41 0x5A b) (b - 0x41 + 11)
    letters))

-- the byte of a letter number; of any other number, the underscore's
unfoldable pub byte_of : ℕ → ℕ
byte_of x =
    cond (within 1 10 x) (0x30 + (x - 1))
    (cond (within 11 36 x) (0x41 + (x - 11))
    0x5F)
