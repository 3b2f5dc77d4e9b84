-- How many bytes the words from a row have: as many as there are words, since each has one byte more than what is left of it behind its first
-- letter, or its line end; and as many as the words from the targets have. Cut numbers of words suffice: where there are over 60,000 words, what
-- is left of them has as many bytes, less one, and both are too many together. Assumes nothing.
use Prim.Native.Nat.{ℕ, zero, suc, ◌+◌, ◌≤◌}
use native.Mathlib.Omega.{arith}
use mathlib.Core.Path.{◌≡◌, refl}
use mathlib.Core.Bool.{Bool, true, false}
use mathlib.Core.List.{[], ◌∷◌}
use lib.ListN.{length, length-append}
use Rattle.letters.specs.Letters.{letters, byte_of}
use Rattle.letters.specs.LetterSet.{flag}
use Rattle.letters.specs.Lists.{longest_list, line, lines}
use Rattle.letters.proofs.LetterSet.{flag-le}
use Rattle.letters.proofs.Loaded.{lines_long}
use Rattle.sets.specs.Below.{total}
use Rattle.sets.specs.Sets.{Words}
use Rattle.sets.proofs.Below.{total-agree, length_over}
use Rattle.sets.proofs.Cut.{cut-total}
use Rattle.rows.specs.Table.{Table, target, ends}
use Rattle.rows.specs.Words.{words}
use Rattle.rows.specs.Tidy.{Used, Tidy}
use Rattle.rows.proofs.Words.{words-none}
use Rattle.counting.specs.Counts.{word_count}
use Rattle.counting.proofs.Ahead.{length-words}
use Rattle.counting.proofs.Filling.{Sums, some_word}
use Rattle.listing.specs.Lists.{lines_behind, line_here}
use Rattle.listing.specs.Sizes.{byte_count}
use Rattle.listing.proofs.Behind.{behind-none, arc_lines, row-lines}

-- behind one letter each word has one byte more
behind-one : (b : ℕ) (l : Words) → length (lines_behind (b ∷ []) l) ≡ length l + length (lines l)
unfolding lines_behind lines
behind-one b [] = refl
behind-one b (w ∷ l) = rw (length-append (b ∷ line w), length-append (line w), behind-one b l) (omega arith)

total-both : (n : ℕ) (f g : ℕ → ℕ) → total n (λ i. f i + g i) ≡ total n f + total n g
unfolding total
total-both zero f g = refl
total-both (suc n) f g = rw (total-both n f g) (omega arith)

total-below : (n : ℕ) (f g : ℕ → ℕ) → ((i : ℕ) → f i ≤ g i) → total n f ≤ total n g
unfolding total
total-below zero f g h = omega arith
total-below (suc n) f g h = omega (arith, total-below n f g h, h n)

length-here : (b : Bool) → length (line_here b []) ≡ flag b
length-here true = refl
length-here false = refl

module _ (t : Table) (tidy : Tidy t) where
  -- the words, and the bytes, of the letter's target
  abbrev counts : ℕ → ℕ → ℕ
  counts r x = length (words t (target t r x))

  abbrev sizes : ℕ → ℕ → ℕ
  sizes r x = length (lines (words t (target t r x)))

  size-row : (r : ℕ) → Used t r → length (lines (words t r)) ≡ length (words t r) + total letters (sizes r)
  size-row r u =
      rw (← behind-none (words t r), row-lines t tidy r u [], length-append, length-here (ends t r), length_over)
      (omega (
        arith,
        total-agree letters (λ x. length (arc_lines t r [] x)) (λ x. counts r x + sizes r x) (λ x _. behind-one (byte_of x) (words t (target t r x))),
        total-both letters (counts r) (sizes r),
        length-words t tidy r u,
      ))

  pub size-sums : Sums t (suc longest_list) (word_count t) (byte_count t)
  unfolding lines
  size-sums =
      record {
        none = rw (words-none t 0 refl);
        some = λ r u. omega (arith, some_word t tidy r u, lines_long (words t r));
        low = λ n. omega arith;
        row = λ r u. omega (
          arith,
          size-row r u,
          length-words t tidy r u,
          flag-le (ends t r),
          total-below letters (counts r) (sizes r) (λ x. lines_long (words t (target t r x))),
          cut-total (suc longest_list) letters (sizes r),
        );
      }
