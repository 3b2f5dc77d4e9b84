-- What is written of a row's lines: the letters walked as a line, where a name may end at the row, and behind it letter by letter the lines from the
-- targets, each to the rest of the buffer. The whole fits, and so does each part behind those before it. Assumes nothing.
use Prim.Native.Nat.{ℕ, ◌+◌, ◌-◌, ◌≤◌, ◌<◌}
use native.Mathlib.Omega.{arith}
use mathlib.Core.Path.{◌≡◌, ap, ◌∙◌}
use mathlib.Core.List.{List, [], ◌∷◌, ◌++◌, append_assoc, append-nil}
use lib.ListN.{length, take, length-append, length-drop}
use lib.Seq.{take_at}
use Rattle.letters.specs.Letters.{letters}
use Rattle.sets.specs.Below.{total, over}
use Rattle.sets.proofs.Below.{length_over, total-more, total-one}
use Rattle.rows.specs.Table.{Table, target, ends}
use Rattle.rows.specs.Words.{words}
use Rattle.rows.specs.Tidy.{Used, Tidy}
use Rattle.rows.specs.Skips.{NextArc}
use Rattle.rows.specs.Arcs.{Goes}
use Rattle.rows.specs.declared.arcs.Arcs.{Arcs}
use Rattle.rows.proofs.Facts.{no_row}
use Rattle.rows.proofs.Words.{words-none}
use Rattle.printing.proofs.Buffers.{Wrote, wrote-part, lent, back}
use Rattle.listing.specs.Lists.{lines_behind, line_here}
use Rattle.listing.proofs.Behind.{arc_lines, row-lines, over_skip}

-- behind whatever was written before, w was written too
abbrev pub WroteMore : ℕ → List ℕ → List ℕ → ℕ → List ℕ → Type 0
WroteMore i between w k after = (front before : List ℕ) → Wrote i front before between → Wrote k (front ++ w) before after

-- as far as letter x the targets' lines are written behind the row's own
pub record SoFar (t : Table) (r : ℕ) (bytes between : List ℕ) (i : ℕ) (after : List ℕ) (k x : ℕ) : Type 0 where
  pub written : WroteMore i between (over x (arc_lines t r bytes)) k after

module _ {t : Table} {r : ℕ} (bytes : List ℕ) where
  -- the letters without a target have no lines
  skipped : {y e : ℕ} → NextArc t r y e → over e (arc_lines t r bytes) ≡ over y (arc_lines t r bytes)
  unfolding lines_behind
  skipped {y} {e} a =
      over_skip (arc_lines t r bytes) y e a.from (λ z low below. rw (words-none t (target t r z) (no_row t (target t r z) (a.none z low below))))

  lines_more : {s e : Arcs} {x n : ℕ} → Goes t r s e x n
      → over e.from (arc_lines t r bytes) ≡ over s.from (arc_lines t r bytes) ++ arc_lines t r bytes x
  unfolding over
  lines_more {x} a = ap (λ y. over y (arc_lines t r bytes)) a.from ∙ ap (λ (l : List ℕ). l ++ arc_lines t r bytes x) (skipped a.next)

module _ {t : Table} {r : ℕ} {bytes between : List ℕ} {i : ℕ} where
  -- before the first letter
  pub none_yet : {x : ℕ} → x ≡ 0 → SoFar t r bytes between i between i x
  unfolding over
  none_yet first = record { written = λ front before w. rw (first, append-nil) w }

  -- one target more, and the letters without a target before it
  pub one_more : {after part : List ℕ} {k j x n : ℕ} {s e : Arcs} → SoFar t r bytes between i after k s.from → Goes t r s e x n
      → Wrote j (arc_lines t r bytes x) (lent k after) part → SoFar t r bytes between i (back k after part) (k + j) e.from
  one_more so_far a wrote =
      record { written = λ front before w. rw (lines_more bytes a, ← append_assoc front) (wrote-part (so_far.written front before w) wrote) }

-- the row's own line is no longer than all
pub here-fits : (t : Table) → Tidy t → (r : ℕ) → Used t r → (bytes : List ℕ)
    → length (line_here (ends t r) bytes) ≤ length (lines_behind bytes (words t r))
here-fits t tidy r u bytes = rw (row-lines t tidy r u bytes, length-append) (omega arith)

module _ {t : Table} {r : ℕ} {bytes before between after : List ℕ} {i k x : ℕ} (tidy : Tidy t) (u : Used t r)
    (room : length (lines_behind bytes (words t r)) ≤ length before) (first : Wrote i (line_here (ends t r) bytes) before between)
    (s : SoFar t r bytes between i after k x) where
  abbrev sizes : ℕ → ℕ
  sizes y = length (arc_lines t r bytes y)

  -- so many bytes are written, and so many there are in all
  written : k ≡ length (line_here (ends t r) bytes) + total x sizes
  written = (s.written _ before first).long ∙ simp (length-append, length_over)

  whole : length (lines_behind bytes (words t r)) ≡ length (line_here (ends t r) bytes) + total letters sizes
  whole = rw (row-lines t tidy r u bytes) (simp (length-append, length_over))

  -- the lines from the next target fit behind those that are written
  pub next_fits : {y : ℕ} → NextArc t r x y → y < letters → k + length (arc_lines t r bytes y) ≤ length before
  next_fits {y} a letter = omega (arith, written, whole, total-more sizes x y a.from, total-one sizes letters y letter)

  -- the buffer is as long as it was
  pub same_size : x ≤ letters → length after ≡ length before
  same_size in_row =
      let so_far = s.written _ before first in
      let few = total-more sizes x letters in_row in
      rw so_far.buffer (simp (length-append, length-drop, length_over) (omega (arith, whole)))

  pub all-written : NextArc t r x letters → Wrote k (lines_behind bytes (words t r)) before after
  all-written end = rw (row-lines t tidy r u bytes, skipped bytes end) (s.written _ before first)

-- a letter that is walked and left again leaves the letters as they were
pub popped : (word : List ℕ) (b : ℕ) → take (length (word ++ b ∷ []) - 1) (word ++ b ∷ []) ≡ word
popped word b = take_at word (b ∷ []) _ (simp length-append (omega arith))
