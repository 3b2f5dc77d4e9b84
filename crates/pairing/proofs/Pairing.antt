-- The row of a pair of rows. A pair of one row twice, or with a missing row, is that row or none. Another pair's row is made letter by letter:
-- its target is the row of the pair of the targets, which are lower, and what is left of the combined words after the letter is what is left of
-- the two, combined. Rows in use keep their words while the table grows, and so every pair that is settled stays so. Assumes nothing.
use Prim.Native.Nat.{ℕ, zero, suc, ◌+◌, ◌≤◌, ◌<◌, max}
use native.Mathlib.Omega.{arith}
use native.Mathlib.Decide.{ℕ_discrete}
use mathlib.Core.Path.{◌≡◌, refl, sym, ◌∙◌}
use mathlib.Core.Bool.{Bool, true, false, cond, ◌||◌, false≢true}
use mathlib.Core.List.{List, []}
use Rattle.std.specs.Prelude.{Some, None, Result, Ok, Err}
use lib.Dec.{eqb, ltb}
use lib.ListN.{length, get_or, set, replicate, length-set, length-replicate, get_or-replicate}
use lib.Seq.{get_or-set_same, get_or-set_other}
use Rattle.std.proofs.lemmas.Option.{none-some, same_Some}
use borrow.Author.Tests.{ltb-true, ltb-false, lt-ltb, le-ltb, eqb-true, eqb-false, eq-eqb, ne_eqb}
use Rattle.letters.specs.Each.{Each}
use Rattle.letters.specs.Letters.{letters}
use Rattle.letters.specs.Names.{longest}
use Rattle.sets.specs.Sets.{Words, Plain, member}
use Rattle.sets.specs.Residuals.{after}
use Rattle.model.specs.Rules.{combined, chosen}
use Rattle.model.proofs.Combined.{member-combined, plain-combined, combined-each, after-combined, combined-or-none}
use Rattle.rows.specs.Table.{Table, most_rows, row_count, mark, target}
use Rattle.rows.specs.Words.{words}
use Rattle.rows.specs.Rules.{above}
use Rattle.rows.specs.Tidy.{Named, Tidy}
use Rattle.rows.specs.Growth.{Grown}
use Rattle.rows.proofs.Facts.{no_row, named-inside, target-named, target_below}
use Rattle.rows.proofs.Zeros.{zero-cell}
use Rattle.rows.proofs.Words.{words-plain, words-short, words-none, empty-word, words-target}
use Rattle.rows.proofs.Growth.{mark-kept, height-kept, used-kept, named-kept, words-kept}
use Rattle.growing.specs.Rows.{end_mark}
use Rattle.growing.specs.declared.makes.Full.{Full}
use Rattle.growing.specs.Growing.{MadeRow, TargetsMade}
use Rattle.growing.proofs.Growing.{Within, within-after, grows_self}
use Rattle.growing.proofs.Targets.{end_marked, targets-none, targets-more, targets-full, targets-fit, over-words, targets-made}
use Rattle.pairing.specs.Pairs.{or_none, is_at_once, at_once, pair_mark, Pair, Both, Pairs, Wide, entry, settled_row, known, kept, Settles, Results, Ready, Combines}

-- the words of a pair
abbrev wanted : ℕ → Table → ℕ → ℕ → Words
wanted op t p q = combined op (words t p) (words t q)

-- no pair is settled at first
none-entered : (n m p q : ℕ) → entry (replicate n (replicate m 0)) p q ≡ 0
none-entered zero m p q = refl
none-entered (suc n) m zero q = zero-cell m q
none-entered (suc n) m (suc p) q = none-entered n m p q

pub none-settled : (op : ℕ) (t : Table) (lanes : ℕ) → row_count t ≤ lanes → Results op t (replicate lanes (replicate most_rows 0))
none-settled op t lanes enough =
    let none : List ℕ = replicate most_rows 0 in
    record {
      rows = rw (length-replicate lanes none) enough;
      wide = λ p h. rw (get_or-replicate lanes p none [] (rw (length-replicate lanes none) at h)) (length-replicate {A = ℕ} most_rows 0);
      settled = λ p q r e. absurd (omega (arith, e, none-entered lanes most_rows p q));
    }

-- the table of pairs with one pair more
module _ {op : ℕ} {t : Table} {seen : Pairs} (before : Results op t seen) (p q r : ℕ) (few : (p < length seen) × (p < most_rows) × (q < most_rows)) where
  row_kept : get_or (kept seen p q r) p [] ≡ set (get_or seen p []) q (suc r)
  row_kept = get_or-set_same seen p _ [] few.0

  long_kept : length (kept seen p q r) ≡ length seen
  long_kept = length-set seen p _

  wide-kept : Wide (kept seen p q r)
  wide-kept a h =
      elim (ℕ_discrete a p) [
        | yes e ↦ rw (e, row_kept) (length-set (get_or seen p []) q (suc r) ∙ before.wide p few.0)
        | no e ↦ rw (get_or-set_other seen p a _ [] e) (before.wide a (rw long_kept at h))
      ]

  entry_kept : entry (kept seen p q r) p q ≡ suc r
  entry_kept = rw row_kept (get_or-set_same (get_or seen p []) q (suc r) 0 (rw (before.wide p few.0) few.2))

  entry_other : (a b : ℕ) → (a ≡ p → b ≡ q → ⊥) → entry (kept seen p q r) a b ≡ entry seen a b
  entry_other a b other =
      elim (ℕ_discrete a p) [
        | yes e ↦ rw (e, row_kept) (get_or-set_other (get_or seen p []) q b (suc r) 0 (other e))
        | no e ↦ rw (get_or-set_other seen p a _ [] e)
      ]

  settled-more : Settles op t p q r → Results op t (kept seen p q r)
  settled-more new = record { rows = rw long_kept before.rows; wide = wide-kept; settled = settled }
    where
      old : (a b s : ℕ) → entry (kept seen p q r) a b ≡ suc s → (a ≡ p → b ≡ q → ⊥) → Settles op t a b s
      old a b s e other = before.settled a b s (sym (entry_other a b other) ∙ e)

      settled : (a b s : ℕ) → entry (kept seen p q r) a b ≡ suc s → Settles op t a b s
      settled a b s e =
          elim (ℕ_discrete a p) [
            | yes d ↦ elim (ℕ_discrete b q) [
              | yes f ↦ let same : s ≡ r = omega (arith, rw (d, f, entry_kept) at e) in rw (d, f, same) new
              | no f ↦ old a b s e (λ _. f)
            ]
            | no d ↦ old a b s e (λ f _. d f)
          ]

-- the numbers of two rows are those of a table of pairs
pub rows_few : {op : ℕ} {t : Table} {seen : Pairs} {p q : ℕ} → Pair t p q → Results op t seen
    → (p < length seen) × (p < most_rows) × (q < most_rows)
rows_few {t} {p} {q} rows settled =
    let first = named-inside t rows.tidy p rows.first in
    let second = named-inside t rows.tidy q rows.second in
    (omega (arith, settled.rows), omega (arith, rows.tidy.most), omega (arith, rows.tidy.most))

-- a settled pair stays settled
module _ {t u : Table} (tidy : Tidy t) (grown : Grown t u) where
  wanted-kept : (op : ℕ) {p q : ℕ} → Named t p → Named t q → wanted op u p q ≡ wanted op t p q
  wanted-kept op {p} {q} first second = rw (words-kept t u grown tidy p first, words-kept t u grown tidy q second)

  settles-kept : {op p q r : ℕ} → Settles op t p q r → Settles op u p q r
  settles-kept {op} {p} {q} {r} s =
      record {
        first = named-kept t u grown p s.first;
        second = named-kept t u grown q s.second;
        named = named-kept t u grown r s.named;
        has = words-kept t u grown tidy r s.named ∙ s.has ∙ sym (wanted-kept op s.first s.second);
      }

  pub settled-kept : {op : ℕ} {seen : Pairs} → Results op t seen → Results op u seen
  settled-kept s =
      record {
        rows = rw grown.long s.rows;
        wide = s.wide;
        settled = λ p q r e. settles-kept (s.settled p q r e);
      }

-- the row of a settled pair is there
pub settles-made : {most op : ℕ} {t : Table} {seen : Pairs} {p q r : ℕ} → Tidy t → Results op t seen → Settles op t p q r
    → Combines most t t seen op p q (Ok r)
settles-made {t} tidy settled s =
    record {
      makes = record { grows = grows_self t tidy _; named = s.named; has = s.has; few = omega arith };
      settled = settled;
    }

-- what is ready is a pair of rows
pub ready-pair : {t : Table} {seen : Pairs} {op p q : ℕ} {ts : List ℕ} → Ready t seen op p q ts → Pair t p q
ready-pair ready = record { tidy = ready.tidy; first = λ _. ready.first; second = λ _. ready.second }

-- the row of a pair is made, and kept
pub row_made : {most op : ℕ} {t u : Table} {seen : Pairs} {p q r : ℕ} → Pair t p q → Results op t seen → MadeRow most t u (wanted op t p q) r
    → Combines most t u (kept seen p q r) op p q (Ok r)
row_made {op} {t} {u} {p} {q} {r} rows settled made =
    let tidy = rows.tidy in
    let grown = made.grows.grown in
    let new : Settles op u p q r =
    record {
      first = named-kept t u grown p rows.first;
      second = named-kept t u grown q rows.second;
      named = made.named;
      has = made.has ∙ sym (wanted-kept tidy grown op rows.first rows.second);
    } in
    record { makes = made; settled = settled-more (settled-kept tidy grown settled) p q r (rows_few rows settled) new }

module _ {op : ℕ} {t : Table} {p q : ℕ} (rows : Pair t p q) where
  -- a row and itself, or a row and none
  or-none-settles : (a b : Bool) (r : ℕ) → Named t r → words t p ≡ cond a (words t r) [] → words t q ≡ cond b (words t r) []
      → Settles op t p q (or_none (chosen op a b) r)
  or-none-settles a b r named d e =
      record {
        first = rows.first;
        second = rows.second;
        named = elim (chosen op a b) as (λ c. Named t (or_none c r)) [ true ↦ named | false ↦ λ some. absurd (omega arith) ];
        has = or-none (chosen op a b) ∙ rw (d, e) (sym (combined-or-none op a b (words t r) (words-plain t r)));
      }
    where
      or-none : (c : Bool) → words t (or_none c r) ≡ cond c (words t r) []
      or-none true = refl
      or-none false = words-none t 0 (no_row t 0 refl)

  at-once-settles : is_at_once p q ≡ true → Settles op t p q (at_once op p q)
  at-once-settles once =
      elim (ℕ_discrete p 0) [
        | yes e ↦ rw (eq-eqb p 0 e) (or-none-settles false true q rows.second (words-none t p (no_row t p e)) refl)
        | no e ↦ rw (ne_eqb p 0 e) (elim (ℕ_discrete p q) [
          | yes d ↦ rw (eq-eqb p q d) (or-none-settles true true p rows.first refl (rw d))
          | no d ↦
              let none : q ≡ 0 = eqb-true q 0 (rw (ne_eqb p q d, ne_eqb p 0 e) at once) in
              rw (ne_eqb p q d) (or-none-settles true false p rows.first refl (words-none t q (no_row t q none)))
        ])
      ]

  module _ {seen : Pairs} (settled : Results op t seen) where
    -- a pair of which the row is known is settled
    pub known-settles : (r : ℕ) → known seen op p q ≡ Some r → Settles op t p q r
    known-settles r = go (is_at_once p q) refl
      where
        entered : (n : ℕ) → entry seen p q ≡ n → settled_row n ≡ Some r → Settles op t p q r
        entered zero _ e = absurd (none-some r e)
        entered (suc s) there e = let same : s ≡ r = same_Some s r e in rw same at (settled.settled p q s there)

        go : (b : Bool) → is_at_once p q ≡ b → cond b (Some (at_once op p q)) (settled_row (entry seen p q)) ≡ Some r → Settles op t p q r
        go true once e = let same : at_once op p q ≡ r = same_Some _ r e in rw same at (at-once-settles once)
        go false _ e = entered (entry seen p q) refl e

    -- the rows of any other are in use
    pub unknown-both : known seen op p q ≡ None → Both t p q
    unknown-both = go (is_at_once p q) refl
      where
        neither : (a b : Bool) → (a || b) ≡ false → (a ≡ false) × (b ≡ false)
        neither true b e = absurd (false≢true (sym e))
        neither false b e = (refl, e)

        go : (b : Bool) → is_at_once p q ≡ b → cond b (Some (at_once op p q)) (settled_row (entry seen p q)) ≡ None → Both t p q
        go true _ e = absurd (none-some _ (sym e))
        go false other _ =
            let (d, e) = neither (eqb p q || eqb p 0) (eqb q 0) other in
            let (_, f) = neither (eqb p q) (eqb p 0) d in
            record {
              tidy = rows.tidy;
              first = rows.first (omega (arith, eqb-false p 0 f));
              second = rows.second (omega (arith, eqb-false q 0 e));
            }

-- the table has grown from t to u: the pairs of the targets are settled for the letters below x
pub record SoFar (op : ℕ) (t : Table) (p q : ℕ) (u : Table) (seen : Pairs) (ts : List ℕ) (x : ℕ) : Type 0 where
  pub settled : Results op u seen
  pub targets : TargetsMade t u (wanted op t p q) (λ y. cond (ltb y x) (after y (wanted op t p q)) []) ts

module _ {op : ℕ} {t : Table} {p q : ℕ} (rows : Both t p q) where
  pub none_yet : {seen : Pairs} → Results op t seen → SoFar op t p q t seen (replicate letters 0) 0
  none_yet settled =
      let none = targets-none t rows.tidy (wanted op t p q) in
      record {
        settled = settled;
        targets =
            record {
              grows = none.grows;
              long = none.long;
              named = none.named;
              has = λ y h. rw (le-ltb y 0 (omega arith)) (none.has y h);
            };
      }

  module _ {u : Table} {seen : Pairs} {ts : List ℕ} {x : ℕ} (so_far : SoFar op t p q u seen ts x) where
    abbrev grown : Grown t u
    grown = so_far.targets.grows.grown

    pub both-kept : Both u p q
    both-kept =
        record {
          tidy = so_far.targets.grows.tidy;
          first = used-kept t u grown p rows.first;
          second = used-kept t u grown q rows.second;
        }

    -- n and k are the targets for the letter x
    module _ {n k : ℕ} (letter : x < letters) (first : n ≡ target u p x) (second : k ≡ target u q x) where
      pub next-pair : Pair u n k
      next-pair =
          record {
            tidy = both-kept.tidy;
            first = rw first (target-named u both-kept.tidy p x both-kept.first letter);
            second = rw second (target-named u both-kept.tidy q x both-kept.second letter);
          }

      -- the greater height of the two falls
      pub next-lower : max (above u n) (above u k) < max (above t p) (above t q)
      next-lower =
          rw (first, second)
          (omega (
            arith,
            rw (height-kept t u grown p rows.first) at (target_below u both-kept.tidy p x both-kept.first letter),
            rw (height-kept t u grown q rows.second) at (target_below u both-kept.tidy q x both-kept.second letter),
          ))

      next-words : wanted op u n k ≡ after x (wanted op t p q)
      next-words =
          rw (first, second)
          (rw (words-target u both-kept.tidy p x both-kept.first letter, words-target u both-kept.tidy q x both-kept.second letter)
          (rw (words-kept t u grown rows.tidy p (λ _. rows.first), words-kept t u grown rows.tidy q (λ _. rows.second))
          (sym (after-combined op x _ _ (words-plain t p) (words-plain t q)))))

      next-within : Within (after x (wanted op t p q)) (wanted op t p q)
      next-within = within-after x letter (wanted op t p q)

      -- the letter is passed, and the others are as before
      passed : ltb x (x + 1) ≡ true
      passed = lt-ltb x (x + 1) (omega arith)

      others_same : (y : ℕ) → y < letters → (y ≡ x → ⊥)
          → cond (ltb y (x + 1)) (after y (wanted op t p q)) [] ≡ cond (ltb y x) (after y (wanted op t p q)) []
      others_same y h other = rw (step (ltb y x) refl)
        where
          step : (b : Bool) → ltb y x ≡ b → ltb y (x + 1) ≡ b
          step true e = lt-ltb y (x + 1) (omega (arith, ltb-true y x e))
          step false e = le-ltb y (x + 1) (omega (arith, ltb-false y x e))

      pub one_more : {most r : ℕ} {v : Table} {seen' : Pairs} → Combines most u v seen' op n k (Ok r)
          → SoFar op t p q v seen' (set ts x r) (x + 1)
      one_more {most} {r} {v} next =
          record {
            settled = next.settled;
            targets = targets-more so_far.targets v most x r _ letter (rw passed (rw next-words at next.makes)) (rw passed next-within) others_same;
          }

      pub no_room_lem : {most : ℕ} {v : Table} {seen' : Pairs} {e d : Full} → Combines most u v seen' op n k (Err e)
          → Combines (row_count t) t v seen' op p q (Err d)
      no_room_lem {v} next =
          record {
            makes = targets-full so_far.targets v _ (after x (wanted op t p q)) (rw next-words at next.makes) next-within;
            settled = next.settled;
          }

    module _ (done : letters ≤ x) where
      plain : Plain (wanted op t p q)
      plain = plain-combined op _ _ (words-plain t p) (words-plain t q)

      short : Each (λ w. length w ≤ longest) (wanted op t p q)
      short = combined-each _ op _ _ (words-short t p) (words-short t q)

      all : (y : ℕ) → y < letters → cond (ltb y x) (after y (wanted op t p q)) [] ≡ after y (wanted op t p q)
      all y h = rw (lt-ltb y x (omega arith))

      -- the mark says whether the operation chooses the empty word
      mark-chosen : end_mark (member [] (wanted op t p q)) ≡ pair_mark u op p q
      mark-chosen =
          rw (member-combined op [] (words t p) (words t q), empty-word t rows.tidy p rows.first, empty-word t rows.tidy q rows.second)
          (rw (mark-kept t u grown p rows.first, mark-kept t u grown q rows.second))

      pub all-ready : Ready u seen op p q ts
      all-ready =
          record {
            tidy = both-kept.tidy;
            first = both-kept.first;
            second = both-kept.second;
            settled = so_far.settled;
            fitting = targets-fit so_far.targets plain short all (pair_mark u op p q) (end_marked _ (chosen op (eqb (mark u p) 2) (eqb (mark u q) 2)) refl);
            over =
                rw mark-chosen at (over-words so_far.targets plain short all)
                ∙ sym (wanted-kept rows.tidy grown op (λ _. rows.first) (λ _. rows.second));
          }

      pub all_made : {v : Table} {seen' : Pairs} {made : Result ℕ Full} → Combines 1 u v seen' op p q made → Combines (row_count t) t v seen' op p q made
      all_made {v} {made} last =
          record {
            makes = targets-made so_far.targets plain short all v made (rw (mark-chosen, all-ready.over) last.makes);
            settled = last.settled;
          }
