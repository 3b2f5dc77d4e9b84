-- The words of a row are the empty word, where a name may end there, and letter by letter those of the targets behind their letter. So their
-- number, how many of them stand before a word, and the n-th of them go letter by letter: those that begin with a lower letter all stand
-- before, those that begin with a higher one do not, and the letters without a target may be skipped. Where a row is counted and its words are
-- no more than the array counts, its number is exact, and so are those of its targets. Assumes nothing.
use Prim.Native.Nat.{ℕ, zero, suc, ◌+◌, ◌≤◌, ◌<◌}
use native.Mathlib.Omega.{arith}
use native.Mathlib.Decide.{ℕ_discrete}
use mathlib.Core.Path.{◌≡◌, refl, ap, ◌∙◌}
use mathlib.Core.Bool.{Bool, true, false, cond}
use mathlib.Core.List.{List, [], ◌∷◌, ◌++◌}
use lib.ListN.{length, length-append, length-map}
use lib.Seq.{get_or-append-add}
use Rattle.letters.specs.Letters.{letters}
use Rattle.letters.specs.LetterSet.{flag}
use Rattle.letters.specs.Words.{Word, order, before}
use Rattle.letters.proofs.LetterSet.{flag-le}
use Rattle.letters.proofs.Ordering.{order-cons, lower-before, higher-not-before}
use Rattle.sets.specs.Below.{total, over}
use Rattle.sets.specs.Sets.{Words, keep}
use Rattle.sets.specs.Cut.{most_names}
use Rattle.sets.proofs.Membership.{keep_append}
use Rattle.sets.proofs.Below.{total-agree, total-one, total-skip, length_over, over-at, keep-over}
use Rattle.model.specs.Lists.{rank_of, nth_of}
use Rattle.rows.specs.Table.{Table, target, ends}
use Rattle.rows.specs.Walk.{has_arc}
use Rattle.rows.specs.Words.{behind, words}
use Rattle.rows.specs.Tidy.{Used, Arc, Tidy}
use Rattle.rows.specs.Skips.{NextArc}
use Rattle.rows.specs.Arcs.{Goes}
use Rattle.rows.specs.declared.arcs.Arcs.{Arcs}
use Rattle.rows.proofs.Facts.{no_row, used-row}
use Rattle.rows.proofs.Words.{words_row, words-none}
use Rattle.counting.specs.Ahead.{sum_by, ahead_by, ahead}
use Rattle.counting.specs.Counts.{count_at, Counts, CountedRow, Counted}

-- the empty word, or nothing
abbrev pub ended : Bool → Words
ended b = cond b ([] ∷ []) []

length-ended : (b : Bool) → length (ended b) ≡ flag b
length-ended true = refl
length-ended false = refl

rank-cons : (w v : Word) (l : Words) → rank_of w (v ∷ l) ≡ flag (before v w) + rank_of w l
unfolding keep
rank-cons w v l =
    let rest = keep (λ v. before v w) l in
    elim (before v w) as (λ b. length (cond b (v ∷ rest) rest) ≡ flag b + length rest) [ true ↦ omega arith | false ↦ omega arith ]

pub rank-few : (w : Word) (l : Words) → rank_of w l ≤ length l
unfolding keep
rank-few w [] = omega arith
rank-few w (v ∷ l) = omega (arith, rank-cons w v l, flag-le (before v w), rank-few w l)

-- no word stands before the empty one, and the empty one stands before every other
pub rank-empty : (l : Words) → rank_of [] l ≡ 0
unfolding keep order
rank-empty [] = refl
rank-empty ([] ∷ l) = rank-empty l
rank-empty ((x ∷ w) ∷ l) = rank-empty l

rank-ended : (x : ℕ) (w : Word) (b : Bool) → rank_of (x ∷ w) (ended b) ≡ flag b
unfolding keep order
rank-ended x w true = refl
rank-ended x w false = refl

-- of the words behind a letter all stand before a word, or as many as of the rests before its rest, or none
rank-lower : (x y : ℕ) (w : Word) (l : Words) → y < x → rank_of (x ∷ w) (behind y l) ≡ length l
unfolding keep
rank-lower x y w [] h = refl
rank-lower x y w (v ∷ l) h = rw (lower-before y x v w h, rank-lower x y w l h)

rank_same : (x : ℕ) (w : Word) (l : Words) → rank_of (x ∷ w) (behind x l) ≡ rank_of w l
unfolding keep
rank_same x w [] = refl
rank_same x w (v ∷ l) = rank-cons (x ∷ w) (x ∷ v) (behind x l) ∙ rw (order-cons, rank_same x w l, rank-cons)

rank-higher : (x y : ℕ) (w : Word) (l : Words) → x < y → rank_of (x ∷ w) (behind y l) ≡ 0
unfolding keep
rank-higher x y w [] h = refl
rank-higher x y w (v ∷ l) h = rw (higher-not-before y x v w h) (rank-higher x y w l h)

-- the n-th of the words behind a letter
nth-behind : (x : ℕ) (l : Words) (n : ℕ) → n < length l → nth_of n (behind x l) ≡ x ∷ nth_of n l
nth-behind x [] n h = absurd (omega arith)
nth-behind x (w ∷ l) zero h = refl
nth-behind x (w ∷ l) (suc n) h = nth-behind x l n (omega arith)

-- before the first letter there is only the own number
pub ahead_none : (own : ℕ) (given : ℕ → ℕ) (t : Table) (r : ℕ) {x : ℕ} → x ≡ 0 → sum_by own given t r x ≡ own
unfolding total
ahead_none own given t r e = rw e (omega arith)

module _ (own : ℕ) (given : ℕ → ℕ) (none : given 0 ≡ 0) {t : Table} {r : ℕ} where
  -- the letters without a target add nothing
  pub ahead-skip : {y e : ℕ} → NextArc t r y e → (x : ℕ) → y ≤ x → x ≤ e → sum_by own given t r x ≡ sum_by own given t r y
  ahead-skip {y} a x h k =
      rw (total-skip (λ z. given (target t r z)) y x h (λ z low below. rw (a.none z low (omega arith)) none))

  pub ahead_more : {s e : Arcs} {x n : ℕ} → Goes t r s e x n → sum_by own given t r e.from ≡ sum_by own given t r s.from + given n
  unfolding total
  ahead_more {x = x} a =
      rw a.to (
      ap (λ y. sum_by own given t r y) a.from
      ∙ (let skip = ahead-skip a.next x a.next.from (omega arith) in omega (arith, skip))
      )

module _ (t : Table) (tidy : Tidy t) (r : ℕ) (u : Used t r) where
  -- what the letter's target gives
  abbrev pub given : ℕ → Words
  given x = words t (target t r x)

  pub words-split : words t r ≡ ended (ends t r) ++ over letters (λ x. behind x (given x))
  words-split = words_row t tidy r u ∙ rw (used-row u)

  pub length-words : length (words t r) ≡ ahead t r letters
  length-words = rw (words-split, length-append, length-ended, length_over) (simp length-map)

  pub target-few : (x : ℕ) → x < letters → ahead t r x + length (words t (target t r x)) ≤ length (words t r)
  target-few x h = rw length-words (omega (arith, total-one (λ y. length (given y)) letters x h))

  pub no-arc-words : (x : ℕ) → has_arc t r x ≡ false → length (words t (target t r x)) ≡ 0
  no-arc-words x e = rw (words-none t (target t r x) (rw (used-row u) at e))

  pub rank-words : (x : ℕ) → x < letters → (w : Word)
      → rank_of (x ∷ w) (words t r) ≡ ahead t r x + rank_of w (words t (target t r x))
  unfolding total
  rank-words x h w =
      let ranks : ℕ → ℕ = λ y. rank_of (x ∷ w) (behind y (given y)) in
      rw (words-split, keep_append, length-append, rank-ended x w (ends t r), keep-over, length_over)
      (omega (
        arith,
        total-skip ranks (suc x) letters h (λ y low _. rank-higher x y w (given y) low),
        total-agree x ranks (λ y. length (given y)) (λ y below. rank-lower x y w (given y) below),
        rank_same x w (given x),
      ))

  pub nth_here : ends t r ≡ true → nth_of 0 (words t r) ≡ []
  nth_here e = rw (words-split, e)

  place : (x n : ℕ) → ahead t r x + n ≡ length (ended (ends t r)) + (total x (λ y. length (behind y (given y))) + n)
  place x n = rw (length-ended (ends t r)) (simp length-map (omega arith))

  pub nth-words : (x : ℕ) → x < letters → (n : ℕ) → n < length (words t (target t r x))
      → nth_of (ahead t r x + n) (words t r) ≡ x ∷ nth_of n (words t (target t r x))
  nth-words x h n below =
      rw (words-split, place x n)
      (get_or-append-add (ended (ends t r)) _ _ [] ∙ over-at _ letters x n [] h (rw length-map below) ∙ nth-behind x (given x) n below)

module _ (t : Table) (counts : List ℕ) (c : Counts t counts) where
  pub count-exact : (n : ℕ) → Counted t counts n → length (words t n) ≤ most_names → count_at counts n ≡ length (words t n)
  count-exact n counted few =
      elim (ℕ_discrete n 0) [
        | yes e ↦ rw (words-none t n (no_row t n e), e) c.none
        | no d ↦ let row = counted (omega arith) in omega (arith, c.counted n row.used row.some)
      ]

  module _ (r : ℕ) (row : CountedRow t counts r) where
    pub target-counted : (x : ℕ) → x < letters → Counted t counts (target t r x)
    target-counted x h there =
        let arc : Arc t r x = record { used = row.used; letter = h; there = there } in
        record { used = c.tidy.targets r x arc; some = c.below r x arc row.some }

    pub ahead-counts : length (words t r) ≤ most_names → (x : ℕ) → x ≤ letters → ahead_by (λ s. count_at counts s) t r x ≡ ahead t r x
    ahead-counts few x h =
        rw (total-agree x (λ y. count_at counts (target t r y)) (λ y. length (words t (target t r y))) exact)
      where
        exact : (y : ℕ) → y < x → count_at counts (target t r y) ≡ length (words t (target t r y))
        exact y below =
            let letter : y < letters = omega arith in
            count-exact (target t r y) (target-counted y letter) (omega (arith, target-few t c.tidy r row.used y letter))
