-- The swept table: the rows reached from the starts stay as they are, and every other row is forty zeros. So a row in use of it is a row that
-- is reached, it is a part of the table, and the table is grown from it. What is reached is a start or the target of a row that is reached:
-- rule 5. A table that is grown from a sound book is swept back to that book: there all rows in use are reached, and nothing else is, since
-- growth changes nothing that is reached. Assumes nothing.
use Prim.Native.Nat.{ℕ, ◌+◌, ◌*◌, ◌/◌, ◌%◌, ◌≤◌, ◌<◌}
use native.Mathlib.Omega.{arith}
use native.Mathlib.Nat.{add-zero}
use native.Mathlib.Decide.{ℕ_discrete, dec_lt}
use mathlib.Core.Path.{◌≡◌, refl, sym, ◌∙◌}
use mathlib.Core.Bool.{Bool, true, false, cond, ◌||◌}
use mathlib.Core.Logic.{inl, inr}
use mathlib.Core.List.Memᴰ
use mathlib.Core.List.{[], ◌∷◌}
use lib.Dec.{ltb}
use lib.ListN.{length, get_or}
use lib.Seq.{ext_get_or}
use borrow.Author.Tests.{lt-ltb, le-ltb}
use Rattle.letters.specs.LetterSet.{count_of}
use Rattle.letters.proofs.LetterSet.{count-agree}
use Rattle.sets.proofs.Membership.{fails, In}
use Rattle.sets.proofs.Below.{tests_agree, over-in, length-each, each_at}
use Rattle.model.specs.Lists.{missions}
use Rattle.rows.specs.Table.{Table, width, row_count, start, starts, mark, target, in_use, room, used_rows}
use Rattle.rows.specs.Words.{lists}
use Rattle.rows.specs.Rules.{sound}
use Rattle.rows.specs.Tidy.{Used, Arc, Tidy, Pointed, Sound}
use Rattle.rows.specs.Reach.{reached, only_rows, swept}
use Rattle.rows.specs.Growth.{Grown}
use Rattle.rows.proofs.Facts.{used-same, in-use-used, used-in-use}
use Rattle.rows.proofs.Cells.{same-mark}
use Rattle.rows.proofs.Rules.{sound-facts, facts-sound}
use Rattle.rows.proofs.Reach.{reached-root, reached-arc, reached-all, reached-used}
use Rattle.rows.proofs.Books.{start-in, starts-named, sound-reached}
use Rattle.rows.proofs.Growth.{lists-kept, reached-kept}
use Rattle.settling.proofs.Parts.{Part, part-mark, part-target, part-arc, part-tidy}

module _ (t : Table) (test : ℕ → Bool) where
  pub only-length : length (only_rows t test) ≡ length t
  unfolding only_rows
  only-length = length-each _ (length t)

  only-cell : (j : ℕ) → j < length t → get_or (only_rows t test) j 0 ≡ cond (ltb j width || test (j / width)) (get_or t j 0) 0
  unfolding only_rows
  only-cell j h = each_at (λ j. cond (ltb j width || test (j / width)) (get_or t j 0) 0) (length t) j 0 h

  -- the head, and what stands behind it, row by row
  pub only-head : (j : ℕ) → j < width → j < length t → get_or (only_rows t test) j 0 ≡ get_or t j 0
  only-head j h inside = only-cell j inside ∙ rw (lt-ltb j width h)

  pub only-behind : (j : ℕ) → width ≤ j → j < length t → get_or (only_rows t test) j 0 ≡ cond (test (j / width)) (get_or t j 0) 0
  only-behind j h inside = only-cell j inside ∙ rw (le-ltb j width h)

  only_row : (r i : ℕ) → 0 < r → r < row_count t → i < width
      → get_or (only_rows t test) (r * width + i) 0 ≡ cond (test r) (get_or t (r * width + i) 0) 0
  only_row r i some below h =
      let e : (r * width + i) / width ≡ r = omega arith in
      only-behind (r * width + i) (omega arith) (omega arith) ∙ rw e

module _ (t : Table) (tidy : Tidy t) where
  abbrev Reached : ℕ → Type 0
  Reached r = reached t r ≡ true

  reach-used : (r : ℕ) → Reached r → Used t r
  reach-used = reached-used t tidy (starts t) (starts-named t tidy)

  swept-head : (i : ℕ) → i < width → get_or (swept t) i 0 ≡ get_or t i 0
  swept-head i h = only-head t (λ r. reached t r) i h (omega (arith, tidy.whole, tidy.least))

  swept-cell : (r i : ℕ) → Reached r → i < width → get_or (swept t) (r * width + i) 0 ≡ get_or t (r * width + i) 0
  swept-cell r i e h =
      let p = reach-used r e in
      only_row t (λ r. reached t r) r i p.positive p.inside h ∙ rw e

  swept-free : (r i : ℕ) → 0 < r → r < row_count t → reached t r ≡ false → i < width → get_or (swept t) (r * width + i) 0 ≡ 0
  swept-free r i some below e h = only_row t (λ r. reached t r) r i some below h ∙ rw e

  used-reached : (r : ℕ) → Used (swept t) r → Reached r
  used-reached r p = go (reached t r) refl
    where
      go : (b : Bool) → reached t r ≡ b → b ≡ true
      go true e = refl
      go false e =
          let below : r < row_count t = rw (only-length t (λ r. reached t r)) at p.inside in
          let free : mark (swept t) r ≡ 0 = rw add-zero at (swept-free r 0 p.positive below e (omega arith)) in
          absurd (omega (arith, p.marked))

  reached-swept : (r : ℕ) → Reached r → Used (swept t) r
  reached-swept r e = used-same (only-length t (λ r. reached t r)) (same-mark t (swept t) r (λ i. swept-cell r i e)) (reach-used r e)

  target-reached : (r x : ℕ) → Reached r → Arc t r x → Used (swept t) (target t r x)
  target-reached r x e a = reached-swept (target t r x) (reached-arc t tidy (starts t) (starts-named t tidy) r x e a)

  swept-part : Part t (swept t)
  swept-part =
      record {
        long = only-length t (λ r. reached t r);
        used = λ r p. reach-used r (used-reached r p);
        cells = λ r i p. swept-cell r i (used-reached r p);
        targets = λ r x p. target-reached r x (used-reached r p);
      }

  root-swept : (r : ℕ) → In r (starts t) → Used t r → Used (swept t) r
  root-swept r i p = reached-swept r (reached-root t tidy (starts t) (starts-named t tidy) r i p)

  swept-tidy : Tidy (swept t)
  swept-tidy = part-tidy t (swept t) swept-part tidy first rest zeros
    where
      first : (m : ℕ) → m < missions → 0 < start (swept t) m → Used (swept t) (start (swept t) m) × (mark (swept t) (start (swept t) m) ≡ 1)
      first m h some =
          let e : start (swept t) m ≡ start t m = swept-head m (omega arith) in
          let (p, one) = tidy.starts m h (rw e at some) in
          let q = root-swept (start t m) (start-in t m h) p in
          rw e (q, part-mark t (swept t) swept-part (start t m) q ∙ one)

      rest : (i : ℕ) → missions ≤ i → i < width → get_or (swept t) i 0 ≡ 0
      rest i low h = swept-head i h ∙ tidy.rest i low h

      zeros : (r i : ℕ) → 0 < r → r < row_count (swept t) → mark (swept t) r ≡ 0 → i < width → get_or (swept t) (r * width + i) 0 ≡ 0
      zeros r i some below free h =
          swept-free r i some (rw (only-length t (λ r. reached t r)) at below)
          (fails (reached t r) (λ e. omega (arith, (reached-swept r e).marked))) h

  -- the table is grown from the swept one
  swept_kept : Grown (swept t) t
  swept_kept =
      record {
        long = sym (only-length t (λ r. reached t r));
        head = λ i h. sym (swept-head i h);
        kept = λ r i p h. sym (swept-cell r i (used-reached r p) h);
      }

  pub swept-lists : lists (swept t) ≡ lists t
  swept-lists = sym (lists-kept (swept t) t swept_kept swept-tidy)

  reached-pointed : (r : ℕ) → Reached r → Used (swept t) r × Pointed (swept t) r
  reached-pointed = reached-all t tidy (starts t) (starts-named t tidy) (λ r. Used (swept t) r × Pointed (swept t) r) root step
    where
      root : (r : ℕ) → In r (starts t) → Used t r → Used (swept t) r × Pointed (swept t) r
      root r i p =
          let (m, h, j) = over-in (λ m. start t m ∷ []) missions i in
          (root-swept r i p, inl (m, h, swept-head m (omega arith) ∙ sym (Memᴰ.eq_of_singleton j)))

      step : (s x : ℕ) → Arc t s x → Used (swept t) s × Pointed (swept t) s
          → Used (swept t) (target t s x) × Pointed (swept t) (target t s x)
      step s x a f =
          let arc = part-arc t (swept t) swept-part s x f.0 a in (
            target-reached s x (used-reached s f.0) a,
            inr (s, x, arc, part-target t (swept t) swept-part s x f.0 a.letter),
          )

  swept-used : used_rows (swept t) ≡ count_of (row_count t) (λ r. reached t r)
  swept-used =
      count-agree (row_count (swept t)) (λ r. in_use (swept t) r) (λ r. reached t r) (λ r h. same r) ∙ rw (only-length t (λ r. reached t r))
    where
      same : (r : ℕ) → in_use (swept t) r ≡ reached t r
      same r = tests_agree _ _ (λ e. used-reached r (in-use-used (swept t) r e)) (λ e. used-in-use (reached-swept r e))

  pub swept-sound : count_of (row_count t) (λ r. reached t r) ≤ room t → sound (swept t) ≡ true
  swept-sound h =
      facts-sound (swept t)
      (record {
        tidy = swept-tidy;
        pointed = λ r p. (reached-pointed r (used-reached r p)).1;
        fits = omega (arith, swept-used, only-length t (λ r. reached t r));
      })

pub swept-grown : (t u : Table) → sound t ≡ true → Grown t u → swept u ≡ t
swept-grown t u e grown = ext_get_or 0 (swept u) t (long ∙ grown.long) cell
  where
    long : length (swept u) ≡ length u
    long = only-length u (λ r. reached u r)

    facts : Sound t
    facts = sound-facts t e

    row : (r i : ℕ) → 0 < r → r < row_count t → i < width → get_or (swept u) (r * width + i) 0 ≡ get_or t (r * width + i) 0
    row r i some below h =
        only_row u (λ r. reached u r) r i some (rw grown.long below) h
        ∙ rw (reached-kept t u grown facts.tidy r)
        (elim (ℕ_discrete (mark t r) 0) [
          | yes free ↦
              rw (fails (reached t r) (λ d. omega (arith, (reach-used t facts.tidy r d).marked)))
              (sym (facts.tidy.zeros r i some below free h))
          | no used ↦
              let p : Used t r = record { positive = some; inside = below; marked = omega arith } in
              rw (sound-reached t facts r p) (grown.kept r i p h)
        ])

    cell : (j : ℕ) → j < length (swept u) → get_or (swept u) j 0 ≡ get_or t j 0
    cell j inside =
        elim (dec_lt j width) [
          | yes h ↦ only-head u (λ r. reached u r) j h (rw long at inside) ∙ grown.head j h
          | no h ↦
              let split : j ≡ j / width * width + j % width = omega arith in
              rw split (row (j / width) (j % width) (omega arith) (omega (arith, long, grown.long, facts.tidy.whole)) (omega arith))
        ]
