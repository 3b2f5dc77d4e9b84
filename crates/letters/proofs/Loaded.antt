-- A list for load and its names, there and back. What is written of the names of a list are the bytes that were loaded: a list is its lines,
-- each with its end, and each line is a name, which comes back in its own bytes. And what is written of rising names is a list, with these
-- names: no letter's byte is the line end. Assumes nothing.
use Prim.Native.Nat.{ℕ, ◌+◌, ◌≤◌, ◌<◌}
use native.Mathlib.Omega.{arith}
use mathlib.Core.Path.{◌≡◌, refl, ◌∙◌, ap}
use mathlib.Core.Bool.{Bool, true, false, cond, and-eq-true_iff}
use mathlib.Core.List.{List, [], ◌∷◌, ◌++◌, map}
use lib.Dec.{eqb}
use lib.ListN.{length, length-append, length-map}
use borrow.Author.Tests.{eqb-true, ne_eqb, le-leb}
use Rattle.letters.specs.Each.{every, Each}
use Rattle.letters.specs.Letters.{letters, line_end, letter, byte_of}
use Rattle.letters.specs.Words.{Word, word_of, bytes_of, Spelled}
use Rattle.letters.specs.Names.{is_name}
use Rattle.letters.specs.Lists.{longest_list, on_first, lines_of, ended, rises, names_of, line, lines, is_list}
use Rattle.letters.proofs.Laws.{letter-byte_of, letter-line_end}
use Rattle.letters.proofs.Words.{word-again}
use Rattle.letters.proofs.Lines.{list-parts}
use Rattle.letters.proofs.NameBytes.{name-again}

-- ---- the names of a list

-- the lines of bytes, one behind the other, each with its end
abbrev joined : List (List ℕ) → List ℕ
joined [] = []
joined (line ∷ more) = (line ++ line_end ∷ []) ++ joined more

joined-lines : (bytes : List ℕ) → ended bytes ≡ true → joined (lines_of bytes) ≡ bytes
unfolding lines_of ended
joined-lines [] e = refl
joined-lines (b ∷ []) e = rw e (rw (eqb-true b line_end e))
joined-lines (b ∷ c ∷ bytes) e = go (lines_of (c ∷ bytes)) (joined-lines (c ∷ bytes) e) (eqb b line_end) refl
  where
    go : (ls : List (List ℕ)) → joined ls ≡ c ∷ bytes → (end : Bool) → eqb b line_end ≡ end
        → joined (cond end ([] ∷ ls) (on_first b ls)) ≡ b ∷ c ∷ bytes
    go ls rest true d = cc (eqb-true b line_end d)
    go [] rest false d = cc
    go (line ∷ more) rest false d = ap (λ (l : List ℕ). b ∷ l) rest

names-joined : (ls : List (List ℕ)) → every is_name ls ≡ true → lines (map word_of ls) ≡ joined ls
unfolding lines
names-joined [] e = refl
names-joined (line ∷ more) e =
    let (one, rest) = (and-eq-true_iff (is_name line) (every is_name more)).0 e in
    rw (name-again line one, names-joined more rest)

pub listed-bytes : (bytes : List ℕ) → is_list bytes ≡ true → lines (names_of bytes) ≡ bytes
listed-bytes bytes e =
    let (short, ended, named, rising) = list-parts bytes e in
    names-joined (lines_of bytes) named ∙ joined-lines bytes ended

-- ---- the bytes of rising names

pub line-long : (w : Word) → length (line w) ≡ length w + 1
line-long w = simp (length-append, length-map)

-- no more words than bytes
pub lines_long : (l : List Word) → length l ≤ length (lines l)
unfolding lines
lines_long [] = omega arith
lines_long (w ∷ l) = simp length-append (omega (arith, lines_long l))

byte-no-end : (x : ℕ) → x < letters → eqb (byte_of x) line_end ≡ false
byte-no-end x h = ne_eqb (byte_of x) line_end (λ e. omega (arith, letter-byte_of x h, letter-line_end, ap letter e))

line_first : (w : Word) → Spelled w → (bytes : List ℕ) → lines_of (line w ++ bytes) ≡ bytes_of w ∷ lines_of bytes
unfolding lines_of
line_first [] s bytes = refl
line_first (x ∷ w) s bytes = rw (byte-no-end x s.0, line_first w s.1 bytes)

written-lines : (l : List Word) → Each Spelled l → lines_of (lines l) ≡ map bytes_of l
unfolding lines_of lines
written-lines [] s = refl
written-lines (w ∷ l) s = line_first w s.0 (lines l) ∙ ap (λ (ls : List (List ℕ)). bytes_of w ∷ ls) (written-lines l s.1)

words-again : (l : List Word) → Each Spelled l → map word_of (map bytes_of l) ≡ l
words-again [] s = refl
words-again (w ∷ l) s = rw (word-again w s.0, words-again l s.1)

pub written-names : (l : List Word) → Each Spelled l → names_of (lines l) ≡ l
written-names l s = ap (map word_of) (written-lines l s) ∙ words-again l s

-- behind a byte with an end behind it, all is ended where what follows is
line-ended : (w : Word) (bytes : List ℕ) → ended bytes ≡ true → ended (line w ++ bytes) ≡ true
unfolding ended
line-ended [] [] e = refl
line-ended [] (b ∷ bytes) e = e
line-ended (x ∷ []) bytes e = line-ended [] bytes e
line-ended (x ∷ y ∷ w) bytes e = line-ended (y ∷ w) bytes e

written-ended : (l : List Word) → ended (lines l) ≡ true
unfolding lines ended
written-ended [] = refl
written-ended (w ∷ l) = line-ended w (lines l) (written-ended l)

every-name : (l : List Word) → Each (λ w. is_name (bytes_of w) ≡ true) l → every is_name (map bytes_of l) ≡ true
every-name [] names = refl
every-name (w ∷ l) names = rw (names.0, every-name l names.1)

pub written-list : (l : List Word) → Each Spelled l → Each (λ w. is_name (bytes_of w) ≡ true) l → rises l ≡ true
    → length (lines l) ≤ longest_list → is_list (lines l) ≡ true
unfolding is_list
written-list l s names rising short =
    rw (le-leb _ _ short, written-ended l, written-lines l s, every-name l names, words-again l s) rising
