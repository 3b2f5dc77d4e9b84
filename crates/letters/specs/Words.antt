-- Words: lists of letter numbers, what they are as bytes, and their order. Assumes nothing.
use Prim.Native.Nat.{ℕ, ◌-◌, ◌<◌, compare, Ordering}
use Rattle.std.specs.Prelude.{Bool, true, false, List, [], ◌∷◌, map, length, take, drop}
use Rattle.std.proofs.Math.Dec.{compare_is_eq}
use Rattle.letters.specs.Each.{Each}
use Rattle.letters.specs.Letters.{letters, letter, byte_of}

-- a word is a list of letter numbers
abbrev pub Word : Type 0
Word = List ℕ

-- each byte's letter number, and each letter number's byte
abbrev pub word_of : List ℕ → Word
word_of bytes = map letter bytes

abbrev pub bytes_of : Word → List ℕ
bytes_of w = map byte_of w

-- the bytes behind the first, as the part of the slice that is handed on
abbrev pub rest : List ℕ → List ℕ
rest bytes = take (length bytes - 1) (drop 1 bytes)

-- every number of the word is a letter's
abbrev pub Spelled : Word → Type 0
Spelled w = Each (λ x. x < letters) w

-- the first order decides; where it finds no difference, the second
abbrev pub then : Ordering → Ordering → Ordering
then Ordering.lt o = Ordering.lt
then Ordering.eq o = o
then Ordering.gt o = Ordering.gt

-- "Names are ordered letter by letter by letter number; a proper prefix stands before the longer name."
unfoldable pub order : Word → Word → Ordering
order [] [] = Ordering.eq
order [] (y ∷ v) = Ordering.lt
order (x ∷ u) [] = Ordering.gt
order (x ∷ u) (y ∷ v) = then (compare x y) (order u v)

-- the order says that the first stands before the second
abbrev pub is_before : Ordering → Bool
is_before Ordering.lt = true
is_before Ordering.eq = false
is_before Ordering.gt = false

abbrev pub before : Word → Word → Bool
before u v = is_before (order u v)

abbrev pub same : Word → Word → Bool
same u v = compare_is_eq (order u v)
