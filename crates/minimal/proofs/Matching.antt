-- Sound books of one length with the same lists are renumberings of each other. A row in use of one belongs to the row of the other that has
-- the same words; the lists leave the same sets, so there is one. What is not in use, free rows and the number 0, is counted off in both: as
-- many rows are in use in both, so equally many are free. Rows that belong together are each other's only ones, have the same mark, by the
-- empty word, and their targets belong together, for these have what is left of the same words; so the heights are the same from below
-- upwards. Free rows are forty zeros. Assumes nothing.
use Prim.Native.Nat.{ℕ, ◌≤◌, ◌<◌}
use native.Mathlib.Omega.{arith}
use native.Mathlib.Decide.{ℕ_discrete}
use mathlib.Core.Path.{◌≡◌, refl, sym, ◌∙◌, ap}
use mathlib.Core.Bool.{Bool, true, false, not, false≢true}
use mathlib.Core.Logic.{◌⊎◌, inl, inr}
use lib.ListN.{length}
use borrow.Author.Tests.{ltb-false, not-true}
use Rattle.letters.specs.LetterSet.{count_of}
use Rattle.letters.specs.Letters.{letters}
use Rattle.letters.proofs.Tests.{by-test}
use Rattle.sets.specs.Residuals.{after, need}
use Rattle.rows.specs.Table.{Table, row_count, is_row, start, mark, height, target, number39, in_use}
use Rattle.rows.specs.Tidy.{Used, Named, Arc, Tidy, Sound}
use Rattle.rows.specs.Words.{words, lists}
use Rattle.rows.proofs.Facts.{row_inside, inside-row, in-use-used, used-in-use, named-cases, target-named, by_height}
use Rattle.rows.proofs.Cells.{free-height, free-target, free-number39}
use Rattle.rows.proofs.Words.{words-target, mark-word, has_word, filled-used, same-words}
use Rattle.rows.proofs.Books.{list-names}
use Rattle.minimal.specs.Renumbered.{Renumbered}
use Rattle.minimal.proofs.Counting.{count_less, count-apart, count-met, count-rest}
use Rattle.minimal.proofs.Places.{used-in-states, states-used, used-rows-need}

-- a free row, or 0
record Free (t : Table) (r : ℕ) : Type 0 where
  inside : r < row_count t
  idle : in_use t r ≡ false

-- how many of them stand before r
abbrev frees : Table → ℕ → ℕ
frees t r = count_of r (λ s. not (in_use t s))

-- row r of t and row s of u belong together
data Matched (t u : Table) (r s : ℕ) : Type 0 where
  used : Used t r → Used u s → words t r ≡ words u s → Matched t u r s
  free : Free t r → Free u s → frees t r ≡ frees u s → Matched t u r s

back : {t u : Table} {r s : ℕ} → Matched t u r s → Matched u t s r
back (used p q e) = used q p (sym e)
back (free p q e) = free q p (sym e)

matched-inside : {t u : Table} {r s : ℕ} → Matched t u r s → r < row_count t
matched-inside (used p q e) = p.inside
matched-inside (free p q e) = p.inside

used-or-free : (t : Table) (r : ℕ) → r < row_count t → Used t r ⊎ Free t r
used-or-free t r h = go (in_use t r) refl
  where
    go : (b : Bool) → in_use t r ≡ b → Used t r ⊎ Free t r
    go true e = inl (in-use-used t r e)
    go false e = inr (record { inside = h; idle = e })

not-both : {t : Table} {r : ℕ} → Used t r → Free t r → ⊥
not-both p q = false≢true (sym q.idle ∙ used-in-use p)

matched-one : {t u : Table} {q r s : ℕ} → Tidy t → Matched t u q s → Matched t u r s → q ≡ r
matched-one {t} {u} {q} {r} tidy (used a b e) (used c d f) = same-words t tidy q r a c (e ∙ sym f)
matched-one tidy (used a b e) (free c d f) = absurd (not-both b d)
matched-one tidy (free a b e) (used c d f) = absurd (not-both d b)
matched-one {t} {u} {q} {r} tidy (free a b e) (free c d f) =
    count-apart (λ s. not (in_use t s)) q r (ap not a.idle) (ap not c.idle) (e ∙ sym f)

none_free : (t : Table) → Tidy t → Free t 0
none_free t tidy = record { inside = omega (arith, tidy.least); idle = refl }

free-mark : (t : Table) (r : ℕ) → is_row t r ≡ true → Free t r → mark t r ≡ 0
free-mark t r row p = omega (arith, ltb-false 0 (mark t r) (rw row at p.idle))

module _ (t u : Table) (tidy : Tidy t) (neat : Tidy u) where
  none-matched : Matched t u 0 0
  unfolding count_of
  none-matched = free (none_free t tidy) (none_free u neat) refl

  named-matched : (m n : ℕ) → Named t m → Named u n → words t m ≡ words u n → Matched t u m n
  named-matched m n p q e =
      elim (named-cases p) [
        | inl a ↦ used a (filled-used u neat n q (rw e at (has_word t tidy m a))) e
        | inr d ↦
            elim (named-cases q) [
              | inl b ↦ used (filled-used t tidy m p (rw e (has_word u neat n b))) b e
              | inr g ↦ rw (d, g) none-matched
            ]
      ]

  matched-row : (r s : ℕ) → Matched t u r s → is_row t r ≡ true → is_row u s ≡ true
  matched-row r s m row =
      elim (ℕ_discrete s 0) [
        | yes e ↦ absurd (omega (arith, (row_inside t r row).0, matched-one tidy (rw e at m) none-matched))
        | no e ↦ inside-row u s (omega arith) (matched-inside (back m))
      ]

  target-words : (r s x : ℕ) → Used t r → Used u s → words t r ≡ words u s → x < letters → words t (target t r x) ≡ words u (target u s x)
  target-words r s x p q e h = words-target t tidy r x p h ∙ (ap (after x) e ∙ sym (words-target u neat s x q h))

  no-higher : (r s : ℕ) → Used t r → Used u s → words t r ≡ words u s → height u s ≤ height t r
  no-higher r s p = by_height t tidy (λ r. (s : ℕ) → Used u s → words t r ≡ words u s → height u s ≤ height t r) step r p s
    where
      step : (r : ℕ) → Used t r
          → ((x : ℕ) → Arc t r x → (s : ℕ) → Used u s → words t (target t r x) ≡ words u s → height u s ≤ height t (target t r x))
          → (s : ℕ) → Used u s → words t r ≡ words u s → height u s ≤ height t r
      step r p below s q e =
          neat.tight s (height t r) q
          (λ x a.
          let same = target-words r s x p q e a.letter in
          let next = neat.targets s x a in
          let there = filled-used t tidy (target t r x) (target-named t tidy r x p a.letter) (rw same (has_word u neat _ next)) in
          let arc : Arc t r x = record { used = p; letter = a.letter; there = there.positive } in
          omega (arith, below x arc (target u s x) next same, tidy.lower r x arc))

  matched-target : (r s x : ℕ) → is_row t r ≡ true → x < letters → Matched t u r s → Matched t u (target t r x) (target u s x)
  matched-target r s x row h (used p q e) =
      named-matched (target t r x) (target u s x) (target-named t tidy r x p h) (target-named u neat s x q h) (target-words r s x p q e h)
  matched-target r s x row h (free p q e) =
      let there = matched-row r s (free p q e) row in
      rw (free-target t tidy r row (free-mark t r row p) x h, free-target u neat s there (free-mark u s there q) x h) none-matched

module _ (t u : Table) (tidy : Tidy t) (neat : Tidy u) (r s : ℕ) (row : is_row t r ≡ true) where
  -- a number of a row that is 0 in a free row is the same in rows that belong together, if it is the same where they have the same words
  matched-number : (number : Table → ℕ → ℕ)
      → ((t : Table) → Tidy t → (r : ℕ) → is_row t r ≡ true → mark t r ≡ 0 → number t r ≡ 0)
      → (Used t r → Used u s → words t r ≡ words u s → number u s ≡ number t r) → Matched t u r s → number u s ≡ number t r
  matched-number number zero same (used p q e) = same p q e
  matched-number number zero same (free p q e) =
      let there = matched-row t u tidy neat r s (free p q e) row in
      zero u neat s there (free-mark u s there q) ∙ sym (zero t tidy r row (free-mark t r row p))

  matched-mark : Matched t u r s → mark u s ≡ mark t r
  matched-mark =
      matched-number mark (λ t tidy r row e. e) (λ p q e. mark-word u neat s q ∙ sym (rw e at (mark-word t tidy r p)))

  matched-height : Matched t u r s → height u s ≡ height t r
  matched-height =
      matched-number height free-height
      (λ p q e. omega (arith, no-higher t u tidy neat r s p q e, no-higher u t neat tidy s r q p (sym e)))

  matched-number39 : Matched t u r s → number39 u s ≡ number39 t r
  matched-number39 = matched-number number39 free-number39 (λ p q e. neat.numbers39 s q ∙ sym (tidy.numbers39 r p))

-- a row of u for each of t
record Across (t u : Table) : Type 0 where
  to : ℕ → ℕ
  others : (n : ℕ) → is_row t n ≡ false → to n ≡ n
  forth : (r : ℕ) → is_row t r ≡ true → Matched t u r (to r)
  only : (r s : ℕ) → Matched t u r s → s ≡ to r

module _ (t u : Table) (sound : Sound t) (other : Sound u) (long : length u ≡ length t) (same : lists u ≡ lists t) where
  equally-free : frees t (row_count t) ≡ frees u (row_count u)
  equally-free =
      let mine = count-rest (λ r. in_use t r) (row_count t) in
      let theirs = count-rest (λ r. in_use u r) (row_count u) in
      omega (arith, used-rows-need t sound, used-rows-need u other, ap need same)

  partner : (r : ℕ) → r < row_count t → (s : ℕ) × Matched t u r s
  partner r h =
      elim (used-or-free t r h) [
        | inl p ↦ let (s, q, e) = states-used u other {k = words t r} (rw same (used-in-states t sound r p)) in (s, used p q (sym e))
        | inr p ↦
            let less = count_less (λ s. not (in_use t s)) (row_count t) r h (ap not p.idle) in
            let (s, below, q, e) = count-met (λ s. not (in_use u s)) (row_count u) (frees t r) (omega (arith, equally-free)) in
            (s, free p (record { inside = below; idle = not-true (in_use u s) q }) (sym e))
      ]

  -- 0 belongs to 0, and past the end nothing is asked: so what is no row can stay as it is
  found : (r : ℕ) → (s : ℕ) × (r < row_count t → Matched t u r s) × (is_row t r ≡ false → s ≡ r)
  found r =
      by-test (is_row t r)
      (λ row. let (s, m) = partner r (row_inside t r row).1 in (s, (λ _. m), λ out. absurd (false≢true (sym out ∙ row))))
      (λ out. (r, only_none out, λ _. refl))
    where
      only_none : is_row t r ≡ false → r < row_count t → Matched t u r r
      only_none out h =
          elim (ℕ_discrete r 0) [
            | yes e ↦ rw e (none-matched t u sound.tidy other.tidy)
            | no e ↦ absurd (false≢true (sym out ∙ inside-row t r (omega arith) h))
          ]

  across : Across t u
  across =
      record {
        to = λ r. (found r).0;
        others = λ n. (found n).2;
        forth = λ r row. (found r).1 (row_inside t r row).1;
        only = λ r s m. matched-one other.tidy (back m) (back ((found r).1 (matched-inside m)));
      }

pub matched-renumbered : (t u : Table) → Sound t → Sound u → length u ≡ length t → lists u ≡ lists t → Renumbered t u
matched-renumbered t u sound other long same =
    let tidy = sound.tidy in
    let neat = other.tidy in
    let there = across t u sound other long same in
    let home = across u t other sound (sym long) (sym same) in
    record {
      to = there.to;
      from = home.to;
      long = long;
      to_row = λ r row. matched-row t u tidy neat r _ (there.forth r row) row;
      from_row = λ r row. matched-row u t neat tidy r _ (home.forth r row) row;
      from_to = λ r row. sym (home.only _ r (back (there.forth r row)));
      to_from = λ r row. sym (there.only _ r (back (home.forth r row)));
      others = there.others;
      starts = λ m h.
          there.only (start t m) (start u m)
          (named-matched t u tidy neat _ _ (λ p. (tidy.starts m h p).0) (λ p. (neat.starts m h p).0)
          (sym (list-names t m h) ∙ rw same at (list-names u m h)));
      rest = λ i low high. neat.rest i low high ∙ sym (tidy.rest i low high);
      marks = λ r row. matched-mark t u tidy neat r _ row (there.forth r row);
      heights = λ r row. matched-height t u tidy neat r _ row (there.forth r row);
      targets = λ r x row h. there.only (target t r x) _ (matched-target t u tidy neat r _ x row h (there.forth r row));
      numbers39 = λ r row. matched-number39 t u tidy neat r _ row (there.forth r row);
    }
