-- Arrays that mark rows. Where rows are written to one by one, those are marked that were written to, and those that were before; what would
-- be written to number 0, which is no row, may be left out. So an array that was zeros marks the rows that pass the test of the writes.
-- Assumes nothing.
use Prim.Native.Nat.{ℕ, zero, suc, ◌+◌, ◌-◌, ◌≤◌, ◌<◌}
use native.Mathlib.Numerals.{add-one}
use native.Mathlib.Omega.{arith}
use native.Mathlib.Decide.{ℕ_discrete}
use mathlib.Core.Path.{◌≡◌, refl, sym, subst, ◌∙◌}
use mathlib.Core.Bool.{Bool, true, false, cond, ◌&&◌, ◌||◌, false≢true}
use mathlib.Core.Logic.{inl, inr}
use mathlib.Core.List.{List, ◌∷◌}
use borrow.Author.Tests.{eq-eqb, ne_eqb}
use lib.Dec.{eqb, ltb}
use lib.ListN.{length, get_or, set, replicate, length-set, length-replicate}
use lib.Seq.{get_or-set_same, get_or-set_other}
use Rattle.std.specs.List.{filter, range_with_len}
use Rattle.letters.specs.LetterSet.{flag, count_of}
use Rattle.sets.specs.Below.{some_below}
use Rattle.sets.proofs.Membership.{either}
use Rattle.rows.specs.Table.{Table, row_count, is_row, target}
use Rattle.rows.specs.Tidy.{Used}
use Rattle.rows.specs.Skips.{NextArc}
use Rattle.rows.specs.Arcs.{Goes}
use Rattle.rows.specs.declared.arcs.Arcs.{Arcs}
use Rattle.rows.proofs.Zeros.{zero-cell}
use Rattle.rows.proofs.Facts.{row_inside, inside-row}
use Rattle.rows.proofs.Skipping.{past}
use Rattle.reaching.specs.Marks.{Marks, MarksMore, Roots, marked}

-- nothing written points at no row, one write points at one, and one list of writes behind another points at the rows of both
points-nowhere : {at : ℕ → Bool} {p : List ℕ} → ((s : ℕ) → at s ≡ false) → MarksMore at p p
points-nowhere none = record { long = refl; points = λ s h. rw (none s) }

points-at-one : (p : List ℕ) (n : ℕ) → n < length p → MarksMore (λ s. eqb n s) p (set p n 1)
points-at-one p n inside =
    record {
      long = length-set p n 1;
      points = λ s h.
          elim (ℕ_discrete s n) [
            | yes e ↦ rw (e, eq-eqb n n refl, get_or-set_same p n 1 0 inside)
            | no e ↦ rw (ne_eqb n s (λ d. e (sym d)), get_or-set_other p n s 1 0 e)
          ];
    }

points-at-both : {first second both : ℕ → Bool} {p q r : List ℕ}
    → MarksMore first p q → MarksMore second q r → ((s : ℕ) → 0 < s → both s ≡ (first s || second s)) → MarksMore both p r
points-at-both {first} {second} {both} {p} {q} {r} one two same =
    record {
      long = two.long ∙ one.long;
      points = λ s h. rw (two.points s h, one.points s h, same s h) (go (first s) (second s) (get_or p s 0));
    }
  where
    go : (a b : Bool) (n : ℕ) → cond b 1 (cond a 1 n) ≡ cond (a || b) 1 n
    go true true n = refl
    go true false n = refl
    go false b n = refl

-- what the numbers below x give is written to
module _ (given : ℕ → ℕ) where
  abbrev pub given_below : ℕ → ℕ → Bool
  given_below x s = some_below x (λ y. eqb (given y) s)

  pub given-none : (p : List ℕ) → MarksMore (λ s. given_below 0 s) p p
  unfolding some_below
  given-none p = points-nowhere (λ s. refl)

  pub given-more : {p q : List ℕ} (x n : ℕ) → MarksMore (λ s. given_below x s) p q → n ≡ given x → n < length p
      → MarksMore (λ s. given_below (x + 1) s) p (set q n 1)
  unfolding some_below
  given-more {q} x n before at inside =
      points-at-both before (points-at-one q n (omega (arith, before.long))) (λ s h. rw (add-one, at))

  -- number 0 stands for no row
  given-zero : {p q : List ℕ} (x : ℕ) → given x ≡ 0 → MarksMore (λ s. given_below x s) p q → MarksMore (λ s. given_below (suc x) s) p q
  unfolding some_below
  given-zero x none before =
      points-at-both before (points-nowhere (λ s. refl)) (λ s some. rw (none, ne_eqb 0 s (λ e. omega arith)))

module _ {t : Table} {r : ℕ} where
  -- letters without a target give none
  pub targets-past : {x e : ℕ} {p q : List ℕ} → NextArc t r x e
      → MarksMore (λ s. given_below (λ y. target t r y) x s) p q → MarksMore (λ s. given_below (λ y. target t r y) e s) p q
  targets-past {x} {e} {p} {q} next =
      past (λ y. target t r y) (λ n. MarksMore (λ s. given_below (λ y. target t r y) n s) p q) (given-zero (λ y. target t r y)) x e next.from next.none

  -- one arc: the letters before it are passed, and its target is written to
  pub targets-more : {s e : Arcs} {x n : ℕ} {p q : List ℕ} → Goes t r s e x n → n < length p
      → MarksMore (λ i. given_below (λ y. target t r y) s.from i) p q → MarksMore (λ i. given_below (λ y. target t r y) e.from i) p (set q n 1)
  targets-more {x = x} {n} {p} {q} arc inside before =
      let next : x + 1 ≡ _ = add-one x ∙ sym arc.from in
      subst (λ (y : ℕ). MarksMore (λ i. given_below (λ y. target t r y) y i) p (set q n 1)) next
      (given-more (λ y. target t r y) x n (targets-past arc.next before) arc.to inside)

module _ {t : Table} {test : ℕ → Bool} {keep : List ℕ} (m : Marks t test keep) where
  pub marks-same : (other : ℕ → Bool) → ((r : ℕ) → is_row t r ≡ true → test r ≡ other r) → Marks t other keep
  marks-same other same = record { long = m.long; marks = λ r row. m.marks r row ∙ same r row }

-- the rows written to are marked too
module _ {at : ℕ → Bool} {p q : List ℕ} (d : MarksMore at p q) where
  pub marked_more : (r : ℕ) → 0 < r → marked q r ≡ (at r || marked p r)
  marked_more r some = rw (d.points r some) (go (at r))
    where
      go : (a : Bool) → ltb 0 (cond a 1 (get_or p r 0)) ≡ (a || marked p r)
      go true = refl
      go false = refl

  pub roots-more : {t : Table} → Roots t p → ((r : ℕ) → is_row t r ≡ true → at r ≡ true → Used t r) → Roots t q
  roots-more {t} roots used =
      record {
        long = rw d.long roots.long;
        used = λ r row e.
            elim (either (at r) (marked p r) (sym (marked_more r (row_inside t r row).0) ∙ e)) [
              | inl a ↦ used r row a
              | inr b ↦ roots.used r row b
            ];
      }

-- no row is marked
pub roots-none : {t : Table} {keep : List ℕ} → Marks t (λ r. false) keep → Roots t keep
roots-none m = record { long = m.long; used = λ r row e. absurd (false≢true (sym (m.marks r row) ∙ e)) }

pub zeros-mark-none : {t : Table} {n : ℕ} → row_count t ≤ n → Marks t (λ r. false) (replicate n 0)
zeros-mark-none {n} inside = record { long = rw (length-replicate {A = ℕ}) inside; marks = λ r row. rw (zero-cell n r) }

-- one item before a filtered list is one more if it passes
length-one : (b : Bool) (x : ℕ) (l : List ℕ) → length (cond b (x ∷ l) l) ≡ flag b + length l
length-one true x l = omega arith
length-one false x l = omega arith

-- the items of a range that pass a test are as many as the rule counts from there on, where the two tests agree
count-range : (asked test : ℕ → Bool) (a n k : ℕ) → a + n ≡ k → ((x : ℕ) → a ≤ x → x < k → asked x ≡ test x)
    → count_of a test + length (filter asked (range_with_len a n)) ≡ count_of k test
unfolding count_of
count-range asked test a zero k e same =
    let all : a ≡ k = omega arith in
    rw all (omega arith)
count-range asked test a (suc n) k e same =
    rw (add-one, same a (omega arith) (omega arith))
    (omega (
      arith,
      length-one (test a) a (filter asked (range_with_len (suc a) n)),
      count-range asked test (suc a) n k (omega arith) (λ x low below. same x (omega arith) below),
    ))

-- row 0 is no state row, so it is none of those counted
pub counted_rows : (t : Table) (keep : List ℕ) (k n : ℕ) → k ≡ row_count t → k - 1 ≡ n
    → length (filter (λ r. marked keep r) (range_with_len 1 n)) ≡ count_of k (λ r. is_row t r && marked keep r)
unfolding count_of
counted_rows t keep zero n rows e =
    let none : n ≡ 0 = omega arith in
    rw none
counted_rows t keep (suc k) n rows e =
    omega (
      arith,
      count-range (λ r. marked keep r) (λ r. is_row t r && marked keep r) 1 n (suc k) (omega arith) (λ x some below. rw (inside-row t x some (omega arith))),
    )
