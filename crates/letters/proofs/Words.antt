-- Words and their bytes: there and back, and what is known of a name and of a prefix. All follows from the laws of letters.
-- Assumes nothing.
use Prim.Native.Nat.{ℕ, suc, ◌-◌, ◌≤◌, ◌<◌}
use mathlib.Core.Path.{◌≡◌, refl}
use mathlib.Core.Bool.{true, and-eq-true_iff}
use mathlib.Core.List.{List, [], ◌∷◌}
use native.Mathlib.Nat.{not-suc-le-zero}
use native.Mathlib.Omega.{arith}
use borrow.Author.Tests.{ltb-true, leb-true, lt-ltb, le-leb}
use lib.ListN.{length, get_or, length-map}
use lib.Seq.{take_all}
use Rattle.letters.specs.Letters.{letters, letter}
use Rattle.letters.specs.Words.{Word, word_of, bytes_of, rest, Spelled}
use Rattle.letters.specs.Names.{longest, spelled, is_prefix, long_as_name, is_name}
use Rattle.letters.proofs.Laws.{letter-byte_of}

pub all_left : (b : ℕ) (bytes : List ℕ) → rest (b ∷ bytes) ≡ bytes
all_left b bytes = take_all (length (b ∷ bytes) - 1) bytes (omega arith)

-- the first letter of a word, and what is left of it
pub word-rest : (bytes : List ℕ) → 0 < length bytes → word_of bytes ≡ letter (get_or bytes 0 0) ∷ word_of (rest bytes)
word-rest [] some = absurd (not-suc-le-zero some)
word-rest (b ∷ bytes) some = rw (all_left b bytes)

pub rest-length : (bytes : List ℕ) → 0 < length bytes → suc (length (rest bytes)) ≡ length bytes
rest-length [] some = absurd (not-suc-le-zero some)
rest-length (b ∷ bytes) some = rw (all_left b bytes)

pub spelled-rest : (bytes : List ℕ) → 0 < length bytes → Spelled (word_of bytes)
    → (letter (get_or bytes 0 0) < letters) × Spelled (word_of (rest bytes))
spelled-rest bytes some s = rw (word-rest bytes some) at s

spelled-word : (bytes : List ℕ) → spelled bytes ≡ true → Spelled (word_of bytes)
spelled-word [] e = tt
spelled-word (b ∷ bytes) e =
    let parts = (and-eq-true_iff _ _).0 e in
    (ltb-true _ _ parts.0, spelled-word bytes parts.1)

spelled-bytes : (w : Word) → Spelled w → spelled (bytes_of w) ≡ true
spelled-bytes [] s = refl
spelled-bytes (x ∷ w) s = simp (letter-byte_of x s.0, lt-ltb x letters s.0, spelled-bytes w s.1)

pub word-again : (w : Word) → Spelled w → word_of (bytes_of w) ≡ w
word-again [] s = refl
word-again (x ∷ w) s = rw (letter-byte_of x s.0, word-again w s.1)

pub prefix-parts : (bytes : List ℕ) → is_prefix bytes ≡ true → (length bytes ≤ longest) × Spelled (word_of bytes)
unfolding is_prefix
prefix-parts bytes e =
    let parts = (and-eq-true_iff _ _).0 e in
    (leb-true _ _ parts.0, spelled-word bytes parts.1)

pub long-parts : (bytes : List ℕ) → long_as_name bytes ≡ true → (0 < length bytes) × (length bytes ≤ longest)
long-parts bytes e =
    let parts = (and-eq-true_iff _ _).0 e in
    (leb-true _ _ parts.0, leb-true _ _ parts.1)

pub name-parts : (bytes : List ℕ) → is_name bytes ≡ true → (0 < length bytes) × (length bytes ≤ longest) × Spelled (word_of bytes)
unfolding is_name
name-parts bytes e =
    let parts = (and-eq-true_iff _ _).0 e in
    let long = long-parts bytes parts.0 in
    (long.0, long.1, spelled-word bytes parts.1)

pub name-spelled : (bytes : List ℕ) → is_name bytes ≡ true → spelled bytes ≡ true
unfolding is_name
name-spelled bytes e = ((and-eq-true_iff (long_as_name bytes) (spelled bytes)).0 e).1

pub name-bytes : (w : Word) → 0 < length w → length w ≤ longest → Spelled w → is_name (bytes_of w) ≡ true
unfolding is_name
name-bytes w some few s = simp (length-map, le-leb _ _ some, le-leb _ _ few, spelled-bytes w s)
