-- A name comes back in the very bytes that were given. The book keeps letter numbers and no bytes, so this has to be proved: a byte that is a
-- letter is the byte of its letter number, so a name is spelled out by its word, and names with the same word are the same name. It stands
-- apart from the laws of letters because a later wish changes just this: once two bytes are read as one letter, only one of them comes back.
-- Assumes nothing.
use Prim.Native.Nat.{ℕ, ◌<◌}
use mathlib.Core.Path.{◌≡◌, refl, sym, ◌∙◌, ap, ap₂}
use mathlib.Core.Bool.{true, ◌||◌}
use mathlib.Core.Logic.{inl, inr}
use mathlib.Core.List.{List, [], ◌∷◌}
use native.Mathlib.Omega.{arith}
use borrow.Author.Tests.{eqb-true, lt-leb}
use lib.Dec.{leb, eqb}
use Rattle.letters.specs.Below.{all_below}
use Rattle.letters.specs.Letters.{letters, letter, byte_of}
use Rattle.letters.specs.Words.{word_of, bytes_of, Spelled, same}
use Rattle.letters.specs.Names.{is_prefix, is_name}
use Rattle.letters.proofs.Ranges.{behind_letters, each-byte}
use Rattle.letters.proofs.Words.{prefix-parts, name-parts}
use Rattle.letters.proofs.Ordering.{same-eq}

-- one test that computes: each byte is no letter, or the byte of its letter number
comes_back : all_below behind_letters (λ b. leb letters (letter b) || eqb (byte_of (letter b)) b) ≡ true
unfolding letter byte_of all_below
comes_back = refl

byte_of-letter : (b : ℕ) → letter b < letters → byte_of (letter b) ≡ b
byte_of-letter b h = elim (each-byte _ comes_back b) [
  | inl back ↦ eqb-true _ _ (rw (lt-leb letters (letter b) h) at back)
  | inr none ↦ absurd (omega (arith, h, none))
]

letters-again : (bytes : List ℕ) → Spelled (word_of bytes) → bytes_of (word_of bytes) ≡ bytes
letters-again [] spelled = refl
letters-again (b ∷ bytes) spelled = ap₂ ◌∷◌ (byte_of-letter b spelled.0) (letters-again bytes spelled.1)

pub prefix-again : (prefix : List ℕ) → is_prefix prefix ≡ true → bytes_of (word_of prefix) ≡ prefix
prefix-again prefix e = letters-again prefix (prefix-parts prefix e).1

pub name-again : (name : List ℕ) → is_name name ≡ true → bytes_of (word_of name) ≡ name
name-again name e = letters-again name (name-parts name e).2

-- different names are different members of a list
pub names_apart : (a b : List ℕ) → is_name a ≡ true → is_name b ≡ true → same (word_of a) (word_of b) ≡ true → a ≡ b
names_apart a b d e alike = sym (name-again a d) ∙ (ap bytes_of (same-eq (word_of a) (word_of b) alike) ∙ name-again b e)
