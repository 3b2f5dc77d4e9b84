-- Texts as bytes, so that the table can be written as 01 writes it. Assumes nothing.
use Rattle.std.specs.Prelude.{ℕ}
use Prim.Native.Char.{code}
use Prim.Native.String.{String, [], ◌∷◌}
use mathlib.Core.List as L
use Rattle.letters.specs.Letters.{line_end}

-- the bytes of a text
abbrev pub bytes : String → L.List ℕ
bytes [] = L.[]
bytes (c ∷ text) = L.◌∷◌ (code c) (bytes text)

-- a list for load: "each name followed by 0x0A"
abbrev pub loadable : L.List String → L.List ℕ
loadable L.[] = L.[]
loadable (L.◌∷◌ name names) = L.◌++◌ (bytes name) (L.◌∷◌ line_end (loadable names))
