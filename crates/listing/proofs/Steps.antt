-- The way to the word with n words before it goes through the arcs of a row, from letter to letter. At a letter the set has the arcs from that
-- letter on, and of the n words those that stand before the words of that letter are passed. A letter without an arc has no words, so none are
-- passed on the way to the first letter of the set; and the set is not empty, or all words of the row were passed. Assumes nothing.
use Prim.Native.Nat.{ℕ, suc, ◌+◌, ◌-◌, ◌^◌, ◌≤◌, ◌<◌}
use native.Mathlib.Omega.{arith}
use native.Mathlib.Decide.{ℕ_discrete, dec_lt}
use mathlib.Core.Path.{◌≡◌, sym, ◌∙◌}
use mathlib.Core.Bool.{Bool, true, false, ◌&&◌, and-eq-true_iff}
use mathlib.Core.List.{List}
use lib.Count.{count_trailing_zeros}
use lib.Dec.{leb}
use lib.ListN.{length}
use borrow.Author.Tests.{leb-true, le-leb, lt-leb, eq-eqb, ne_eqb}
use Rattle.letters.specs.Letters.{letters}
use Rattle.letters.specs.LetterSet.{flag, sum_of}
use Rattle.letters.proofs.LetterSet.{sum-agree, sum-none, sum-except, except, letter-le-sum, First, first-of-sum}
use Rattle.sets.specs.Below.{total}
use Rattle.sets.proofs.Below.{total-skip}
use Rattle.rows.specs.Table.{Table, row_count, target, ends}
use Rattle.rows.specs.Walk.{has_arc}
use Rattle.rows.specs.Words.{words}
use Rattle.rows.specs.Tidy.{Used, Tidy}
use Rattle.rows.proofs.Facts.{no_row}
use Rattle.rows.proofs.Words.{words-none}
use Rattle.counting.specs.Ahead.{ahead}
use Rattle.counting.specs.Counts.{count_at, CountedRow}
use Rattle.counting.proofs.Ahead.{length-words, target-few, no-arc-words, count-exact, target-counted}
use Rattle.listing.specs.Steps.{Listable, Leads}

-- the array has the number of words from a row
pub listable-exact : {t : Table} {counts : List ℕ} {r : ℕ} → Listable t counts r → count_at counts r ≡ length (words t r)
listable-exact {t} {counts} {r} l = count-exact t counts l.counted r l.row l.few

-- the arcs of the row from a letter on
abbrev pub onward : Table → ℕ → ℕ → ℕ → Bool
onward t r from y = leb from y && has_arc t r y

-- letter x has an arc, the set has the arcs from x on, and of the n words those before the words of x are passed
pub record At (t : Table) (r n x left set : ℕ) : Type 0 where
  pub letter : x < letters
  pub arc : has_arc t r x ≡ true
  pub arcs : set ≡ sum_of letters (onward t r x)
  pub passed : ahead t r x + left ≡ n

onward-low : (t : Table) (r from y : ℕ) → y < from → onward t r from y ≡ false
onward-low t r from y h = rw (lt-leb from y h)

onward-high : (t : Table) (r from y : ℕ) → from ≤ y → onward t r from y ≡ has_arc t r y
onward-high t r from y h = rw (le-leb from y h)

-- from the first letter with an arc on, or from the letter behind one
onward-first : (t : Table) (r from x : ℕ) → from ≤ x → ((y : ℕ) → y < x → onward t r from y ≡ false)
    → (y : ℕ) → onward t r from y ≡ onward t r x y
onward-first t r from x low none y =
    elim (dec_lt y x) [
      | yes h ↦ none y h ∙ sym (onward-low t r x y h)
      | no h ↦ onward-high t r from y (omega arith) ∙ sym (onward-high t r x y (omega arith))
    ]

onward-behind : (t : Table) (r x y : ℕ) → except x (onward t r x) y ≡ onward t r (suc x) y
onward-behind t r x y =
    elim (ℕ_discrete y x) [
      | yes e ↦ rw (eq-eqb y x e, onward-low t r (suc x) y (omega arith))
      | no d ↦
          rw (ne_eqb y x d)
          (elim (dec_lt y x) [
            | yes h ↦ onward-low t r x y h ∙ sym (onward-low t r (suc x) y (omega arith))
            | no h ↦ onward-high t r x y (omega arith) ∙ sym (onward-high t r (suc x) y (omega arith))
          ])
    ]

module _ {t : Table} {r n x left set : ℕ} (a : At t r n x left set) where
  -- the set without the letter has the arcs behind it
  behind-arcs : set - 2 ^ x ≡ sum_of letters (onward t r (suc x))
  behind-arcs =
      let here = sum-except letters (onward t r x) x a.letter (onward-high t r x x (omega arith) ∙ a.arc) in
      let rest = sum-agree letters (except x (onward t r x)) (onward t r (suc x)) (λ y _. onward-behind t r x y) in
      omega (arith, a.arcs)

  pub in-set : 2 ^ x ≤ set
  in-set = rw a.arcs (letter-le-sum letters (onward t r x) x a.letter (onward-high t r x x (omega arith) ∙ a.arc))

  pub leads : {here : ℕ} → here ≡ length (words t (target t r x)) → left < here → Leads t r n (record { letter = x; left = left })
  leads all h = record { letter = a.letter; before = a.passed; under = omega arith }

module _ {t : Table} {counts : List ℕ} {r n : ℕ} (l : Listable t counts r) (below : n < length (words t r)) where
  abbrev tidy : Tidy t
  tidy = l.counted.tidy

  -- a row with a word is in use, and counted
  row-counted : CountedRow t counts r
  row-counted =
      elim (ℕ_discrete r 0) [ yes e ↦ absurd (omega (arith, rw (words-none t r (no_row t r e)) at below)) | no d ↦ l.row (omega arith) ]

  pub row-used : Used t r
  row-used = row-counted.used

  -- where there is no arc between, no words stand between
  skipped : (from x : ℕ) → from ≤ x → ((y : ℕ) → y < x → onward t r from y ≡ false) → ahead t r x ≡ ahead t r from
  skipped from x h none =
      omega (
        arith,
        total-skip (λ y. length (words t (target t r y))) from x h
            (λ y low high. no-arc-words t tidy r row-used y (sym (onward-high t r from y low) ∙ none y high)),
      )

  module _ (from left set : ℕ) (inside : from ≤ letters) (passed : ahead t r from + left ≡ n) (arcs : set ≡ sum_of letters (onward t r from)) where
    not-empty : 0 < set
    not-empty =
        elim (ℕ_discrete set 0) [
          | yes e ↦
              let none = sum-none letters (onward t r from) (sym arcs ∙ e) in
              absurd (omega (arith, length-words t tidy r row-used, skipped from letters inside none))
          | no d ↦ omega arith
        ]

    first : First letters (onward t r from) (count_trailing_zeros 64 set)
    first = rw arcs (first-of-sum letters 64 (onward t r from) (omega arith) (rw arcs at not-empty))

    -- at the first letter of the set
    at_first : (from ≤ count_trailing_zeros 64 set) × At t r n (count_trailing_zeros 64 set) left set
    at_first =
        let x : ℕ = count_trailing_zeros 64 set in
        let (high, arc) = (and-eq-true_iff (leb from x) (has_arc t r x)).0 first.passes in
        let low : from ≤ x = leb-true from x high in (
          low,
          record {
            letter = first.below;
            arc = arc;
            arcs = arcs ∙ sum-agree letters (onward t r from) (onward t r x) (λ y _. onward-first t r from x low first.least y);
            passed = omega (arith, skipped from x low first.least);
          },
        )

  pub at-start : {left set x : ℕ} → flag (ends t r) ≤ n → left ≡ n - flag (ends t r) → set ≡ sum_of letters (λ y. has_arc t r y)
      → x ≡ count_trailing_zeros 64 set → At t r n x left set
  unfolding total
  at-start {left} {set} {x} h e arcs first =
      let all = sum-agree letters (λ y. has_arc t r y) (onward t r 0) (λ y _. sym (onward-high t r 0 y (omega arith))) in
      rw first (at_first 0 left set (omega arith) (omega arith) (arcs ∙ all)).1

  module _ {left set x : ℕ} (a : At t r n x left set) where
    pub at_next : {here rest next : ℕ} → here ≡ length (words t (target t r x)) → here ≤ left → rest ≡ set - 2 ^ x
        → next ≡ count_trailing_zeros 64 rest → (x < next) × At t r n next (left - here) rest
    unfolding total
    at_next {here} {rest} {next} all passed e first =
        rw first (at_first (suc x) (left - here) rest a.letter (omega (arith, a.passed)) (e ∙ behind-arcs a))

    -- the array has the number of words from the letter's target
    pub countable : Tidy t × Used t r × (x < letters) × (row_count t ≤ length counts)
    countable = (tidy, row-used, a.letter, l.counted.long)

  -- the way goes on at a target, whose words are counted
  module _ {x : ℕ} (h : x < letters) where
    pub target-listable : Listable t counts (target t r x)
    target-listable =
        record {
          counted = l.counted;
          row = target-counted t counts l.counted r row-counted x h;
          few = omega (arith, target-few t tidy r row-used x h, l.few);
        }

    pub target-exact : {here : ℕ} → here ≡ count_at counts (target t r x) → here ≡ length (words t (target t r x))
    target-exact e = e ∙ listable-exact target-listable
