-- The array is filled row by row, each after its targets, and what is counted stays counted. So when a row's arcs are passed its targets are
-- counted, and its number is its own part and the sum of theirs, cut. This serves any number that is so made from those of the targets and is
-- not 0 for a row in use; the number of words is one, because a row in use has a word. Assumes nothing.
use Prim.Native.Nat.{ℕ, suc, ◌+◌, ◌*◌, ◌≤◌, ◌<◌, min}
use native.Mathlib.Omega.{arith}
use native.Mathlib.Decide.{ℕ_discrete}
use mathlib.Core.Path.{◌≡◌, refl, sym, ◌∙◌}
use mathlib.Core.Logic.{inl, inr}
use mathlib.Core.List.{List, [], ◌∷◌}
use lib.ListN.{length, set, replicate, length-set, length-replicate}
use lib.Seq.{get_or-set_same, get_or-set_other}
use Rattle.letters.specs.Letters.{letters}
use Rattle.letters.specs.LetterSet.{flag}
use Rattle.sets.specs.Sets.{Words, Filled}
use Rattle.sets.specs.Cut.{most_names}
use Rattle.sets.proofs.Below.{total-most, total-more}
use Rattle.sets.proofs.Cut.{cut-total}
use Rattle.rows.specs.Table.{Table, row_count, target, ends}
use Rattle.rows.specs.Words.{words}
use Rattle.rows.specs.Tidy.{Used, Arc, Tidy}
use Rattle.rows.specs.Skips.{NextArc}
use Rattle.rows.specs.Arcs.{Goes}
use Rattle.rows.specs.declared.arcs.Arcs.{Arcs}
use Rattle.rows.proofs.Words.{words-none, has_word}
use Rattle.rows.proofs.Zeros.{zero-cell}
use Rattle.rows.proofs.Skipping.{lower-or-not}
use Rattle.counting.specs.Ahead.{sum_by}
use Rattle.counting.specs.Counts.{count_at, Numbered, word_count, Counted, Kept, NumberedMore}
use Rattle.counting.proofs.Ahead.{length-words, ahead_none, ahead-skip, ahead_more}

-- the number of a row is its own part and the sum of its targets' numbers, cut: nothing from 0, and something from a row in use
pub record Sums (t : Table) (most : ℕ) (own number : ℕ → ℕ) : Type 0 where
  pub none : number 0 ≡ 0
  pub some : (r : ℕ) → Used t r → 0 < number r
  pub low : (n : ℕ) → number n ≤ most
  pub row : (r : ℕ) → Used t r → number r ≡ min (sum_by (own r) number t r letters) most

-- a row in use has a word
pub some_word : (t : Table) → Tidy t → (r : ℕ) → Used t r → 0 < length (words t r)
some_word t tidy r u = go (words t r) (has_word t tidy r u)
  where
    go : (l : Words) → Filled l → 0 < length l
    go [] f = absurd f
    go (w ∷ l) f = omega arith

-- how many words there are: the empty one, where a name may end, and those of the targets
pub word-sums : (t : Table) → Tidy t → Sums t (suc most_names) (λ r. flag (ends t r)) (word_count t)
word-sums t tidy =
    record {
      none = rw (words-none t 0 refl);
      some = λ r u. omega (arith, some_word t tidy r u);
      low = λ n. omega arith;
      row = λ r u. omega (arith, length-words t tidy r u, cut-total (suc most_names) letters (λ y. length (words t (target t r y))));
    }

-- in an array of zeros no row is counted
pub zeros-numbered : {t : Table} {n : ℕ} (number : ℕ → ℕ) → Tidy t → row_count t ≤ n → Numbered t number (replicate n 0)
zeros-numbered {t} {n} number tidy long = record {
  tidy = tidy;
  long = rw (length-replicate {A = ℕ}) long;
  none = zero-cell n 0;
  counted = λ r u some. absurd (omega (arith, zero-cell n r));
  below = λ r x a some. absurd (omega (arith, zero-cell n r));
}

-- as far as letter x: the targets are counted, and so are the rows that were counted before; the sum has their numbers
pub record SoFar (t : Table) (own number : ℕ → ℕ) (r : ℕ) (before after : List ℕ) (sum x : ℕ) : Type 0 where
  pub counts : Numbered t number after
  pub kept : Kept before after
  pub targets : (y : ℕ) → y < x → Counted t after (target t r y)
  pub sums : sum ≡ sum_by (own r) number t r x

-- what is counted stays so where a row is given a number
set-kept : (counts : List ℕ) (r k : ℕ) → 0 < k → r < length counts → Kept counts (set counts r k)
set-kept counts r k more inside n some =
    elim (ℕ_discrete n r) [
      | yes e ↦ rw (e, get_or-set_same counts r k 0 inside) more
      | no d ↦ rw (get_or-set_other counts r n k 0 d) some
    ]

module _ {t : Table} {most : ℕ} {own number : ℕ → ℕ} (law : Sums t most own number) {r : ℕ} where
  -- before the first letter
  pub none_yet : {counts : List ℕ} {sum x : ℕ} → Numbered t number counts → sum ≡ own r → x ≡ 0
      → SoFar t own number r counts counts sum x
  none_yet c start first =
      record {
        counts = c;
        kept = λ s some. some;
        targets = λ y below. absurd (omega arith);
        sums = start ∙ sym (ahead_none (own r) number t r first);
      }

  -- one target more, and the letters without a target before it
  pub one_more : {before between after : List ℕ} {sum k x n : ℕ} {s e : Arcs} → SoFar t own number r before between sum s.from
      → Goes t r s e x n → NumberedMore t number n between after → k ≡ number n → SoFar t own number r before after (sum + k) e.from
  one_more {after} {x} {s} {e} so_far a m same =
      record {
        counts = m.counts;
        kept = λ q some. m.kept q (so_far.kept q some);
        targets = targets;
        sums = omega (arith, ahead_more (own r) number law.none a, so_far.sums);
      }
    where
      targets : (y : ℕ) → y < e.from → Counted t after (target t r y)
      targets y below =
          elim (ℕ_discrete y x) [
            | yes same ↦ rw (same, ← a.to) m.here
            | no other ↦
                elim (lower-or-not y s.from) [
                  | inl low ↦ λ there. let row = so_far.targets y low there in record { used = row.used; some = m.kept _ row.some }
                  | inr high ↦ λ there. absurd (omega (arith, a.next.none y high (omega (arith, a.from))))
                ]
          ]

  -- the sum is small, since each of the letters has added a cut number at most
  pub sum-small : {before after : List ℕ} {sum x : ℕ} → SoFar t own number r before after sum x → x ≤ letters → sum ≤ own r + letters * most
  sum-small {x} s in_row =
      let given : ℕ → ℕ = λ y. number (target t r y) in
      omega (arith, s.sums, total-more given x letters in_row, total-most given most letters (λ y. law.low (target t r y)))

  -- no arc is left: the row may be counted
  module _ {before after : List ℕ} {sum x k : ℕ} (s : SoFar t own number r before after sum x) (u : Used t r) (end : NextArc t r x letters)
      (sum-cut : k ≡ min sum most) where
    pub sum_number : k ≡ number r
    sum_number = omega (arith, s.sums, ahead-skip (own r) number law.none end letters end.from (omega arith), law.row r u)

    targets : (y : ℕ) → y < letters → Counted t after (target t r y)
    targets y letter =
        elim (lower-or-not y x) [
          | inl low ↦ s.targets y low
          | inr high ↦ λ there. absurd (omega (arith, end.none y high letter))
        ]

    pub row-numbered : NumberedMore t number r before (set after r k)
    row-numbered =
        record {
          counts =
              record {
                tidy = s.counts.tidy;
                long = rw length-set s.counts.long;
                none = get_or-set_other after r 0 k 0 (λ e. omega (arith, u.positive)) ∙ s.counts.none;
                counted = counted;
                below = λ q y a some. kept (target t q y) (below q y a some);
              };
          kept = λ q some. kept q (s.kept q some);
          here = λ _. record { used = u; some = rw (get_or-set_same after r k 0 inside) some-here };
        }
      where
        inside : r < length after
        inside = omega (arith, u.inside, s.counts.long)

        some-here : 0 < k
        some-here = omega (arith, sum_number, law.some r u)

        kept : Kept after (set after r k)
        kept = set-kept after r k some-here inside

        counted : (q : ℕ) → Used t q → 0 < count_at (set after r k) q → count_at (set after r k) q ≡ number q
        counted q v some =
            elim (ℕ_discrete q r) [
              | yes e ↦ rw (e, get_or-set_same after r k 0 inside) sum_number
              | no d ↦ let same = get_or-set_other after r q k 0 d in same ∙ s.counts.counted q v (rw same at some)
            ]

        below : (q y : ℕ) → Arc t q y → 0 < count_at (set after r k) q → 0 < count_at after (target t q y)
        below q y a some =
            elim (ℕ_discrete q r) [
              | yes e ↦ rw e (targets y a.letter (rw e at a.there)).some
              | no d ↦ s.counts.below q y a (rw (get_or-set_other after r q k 0 d) at some)
            ]
