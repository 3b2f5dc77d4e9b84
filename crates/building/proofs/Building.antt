-- `build` step by step: the loop passes the group of one letter after another, and the row of each is that letter's target. When no name to come
-- begins with the letters of the group, the targets are those of the row for it. Assumes nothing.
use Prim.Native.Nat.{ℕ, suc, ◌+◌, ◌≤◌, ◌<◌}
use native.Mathlib.Omega.{arith}
use native.Mathlib.Decide.{ℕ_discrete}
use mathlib.Core.Path.{◌≡◌, refl, sym, ap, ◌∙◌}
use mathlib.Core.Bool.{Bool, true, false, cond, false≢true}
use mathlib.Core.List.{List, [], ◌∷◌, ◌++◌, map, append-nil}
use Rattle.std.specs.Prelude.{Result}
use lib.Dec.{eqb}
use lib.ListN.{length, get_or, set, replicate, drop, length-append, length-map}
use borrow.Author.Tests.{eqb-true, eqb-false}
use Rattle.letters.specs.Each.{Each}
use Rattle.letters.specs.Letters.{letters, letter}
use Rattle.letters.specs.Words.{Word, word_of, order}
use Rattle.letters.specs.Names.{longest}
use Rattle.letters.proofs.Words.{name-parts}
use Rattle.sets.specs.Sets.{Words, Filled, Plain, member}
use Rattle.sets.specs.Residuals.{after, residual}
use Rattle.sets.proofs.Sets.{member-each, members-each}
use Rattle.sets.proofs.Residuals.{member-residual, residual-on, residual-begun, plain-residual}
use Rattle.rows.specs.Table.{Table, row_count}
use Rattle.rows.specs.Tidy.{Tidy}
use Rattle.rows.proofs.Facts.{no_row}
use Rattle.rows.proofs.Words.{words-none}
use Rattle.growing.specs.declared.makes.Full.{Full}
use Rattle.growing.specs.Rows.{end_mark, words_over}
use Rattle.growing.specs.Growing.{Fitting, MadeRow, MadeFull, Makes, TargetsMade}
use Rattle.growing.proofs.Growing.{within-after, grows_self}
use Rattle.growing.proofs.Targets.{end_marked, targets-none, targets-more, targets-full, targets-fit, targets-made}
use Rattle.merging.specs.declared.places.Places.{Places}
use Rattle.merging.specs.Merging.{next_bytes, places_after, Lists, both_from}
use Rattle.merging.proofs.Merging.{Taken, next-taken, next-over, both-plain, both-short}
use Rattle.building.specs.declared.depths.Ahead.{Ahead}
use Rattle.building.specs.Groups.{Begins, opening, group, first_places, deep_in, Deep, Behind}
use Rattle.building.specs.Building.{BuiltGroup}
use Rattle.building.proofs.Grouping.{begun, Grouped, grouped-own, grouped-none, left, all_words, own-words, other-words, ends_same}
use Rattle.building.proofs.Grouping.{grouped-more, none-to-come}
use Rattle.building.proofs.Openings.{opening-length, opening-more, name-opens, name-goes-on, opening-all, opening_of, spelled-letter}
use Rattle.building.proofs.Openings.{begun-shared, deep-begun, deep-other, deep-shorter}

-- no name, no row
pub none-built : (t : Table) → Tidy t → MadeRow (row_count t) t t [] 0
none-built t tidy =
    record {
      grows = grows_self t tidy [];
      named = λ some. absurd (omega arith);
      has = words-none t 0 (no_row t 0 refl);
      few = omega arith;
    }

-- ---- the first name of a group

module _ {f s : List ℕ} {at : Places} {name : List ℕ} {depth : ℕ} (begins : Begins f s at name depth) where
  pub first_taken : Taken f s at name (places_after f s at)
  first_taken = rw begins.next (next-taken begins.lists (rw begins.next at begins.some))

  pub name-short : length name ≤ longest
  name-short = (name-parts name first_taken.named).1

  pub first-opens : both_from f s at ≡ (opening name depth ++ word_of (drop depth name)) ∷ both_from f s (places_after f s at)
  first-opens = rw (← name-opens name depth) first_taken.words

  -- it is as deep as the group
  pub first-deep : deep_in (opening name depth) (both_from f s at) ≡ suc depth
  first-deep = rw (first-opens, begun-shared) (ap suc (opening-length name depth begins.deep))

-- from t on, the names before the places ahead are passed, and the table v has the rows of their groups
pub record Passed (t v : Table) (f s : List ℕ) (at : Places) (name : List ℕ) (depth : ℕ) (ahead : Ahead) (targets : List ℕ) : Type 0 where
  pub lists : Lists f s ahead.places
  pub deep : Deep f s (opening name depth) ahead
  pub done : Words
  pub grouped : Grouped (both_from f s at) (opening name depth) done (both_from f s ahead.places)
  pub ends : member [] done ≡ eqb (length name) depth
  pub made : TargetsMade t v (group f s at name depth) (λ x. after x done) targets

module _ {f s : List ℕ} {at : Places} {name : List ℕ} {depth : ℕ} (begins : Begins f s at name depth) where
  -- the group's letters alone may be the first name
  pub passed_none : (t : Table) → Tidy t → (ahead : Ahead) → ahead.places ≡ first_places f s at name depth
      → Deep f s (opening name depth) ahead → Passed t t f s at name depth ahead (replicate letters 0)
  unfolding after member order
  passed_none t tidy ahead there deep = go (eqb (length name) depth) refl there
    where
      go : (b : Bool) → eqb (length name) depth ≡ b → ahead.places ≡ cond b (places_after f s at) at
          → Passed t t f s at name depth ahead (replicate letters 0)
      go true e p =
          let whole : word_of name ≡ opening name depth ++ [] =
          sym (append-nil (opening name depth) ∙ opening-all name depth (omega (arith, eqb-true (length name) depth e))) in
          let first : both_from f s at ≡ (opening name depth ++ []) ∷ both_from f s (places_after f s at) = rw (← whole) (first_taken begins).words in
          record {
            lists = rw p (first_taken begins).lists;
            deep = deep;
            done = [] ∷ [];
            grouped = rw p (grouped-own _ (both-plain begins.lists) _ _ first);
            ends = rw e;
            made = targets-none t tidy (group f s at name depth);
          }
      go false e p =
          let longer : depth < length name = omega (arith, begins.deep, eqb-false (length name) depth e) in
          let first = rw (name-goes-on name depth longer) at (first_taken begins).words in
          record {
            lists = rw p begins.lists;
            deep = deep;
            done = [];
            grouped = rw p (grouped-none _ (both-plain begins.lists) _ _ (letter (get_or name depth 0)) _ first);
            ends = rw e;
            made = targets-none t tidy (group f s at name depth);
          }

module _ {t v : Table} {f s : List ℕ} {at : Places} {name : List ℕ} {depth : ℕ} {ahead : Ahead} {ts : List ℕ} (begins : Begins f s at name depth)
    (passed : Passed t v f s at name depth ahead ts) where
  long : length (opening name depth) ≡ depth
  long = opening-length name depth begins.deep

  -- ---- the next name begins with the letters of the group
  module _ (goes_on : depth < ahead.deep) (next : List ℕ) (told : next ≡ next_bytes f s ahead.places) where
    to-pass : (w : Word) × (more : Words) × (both_from f s ahead.places ≡ (opening name depth ++ w) ∷ more)
    to-pass = deep-begun (opening name depth) _ (omega (arith, long, passed.deep))

    some_next : 0 < length next
    some_next =
        elim (ℕ_discrete (length next) 0) [
          | yes e ↦
              let clash : ◌≡◌ {A = ℕ} 0 1 = cc ((next-over passed.lists (rw told at e)).none, to-pass.2) in
              absurd (omega arith)
          | no e ↦ omega arith
        ]

    next-first : both_from f s ahead.places ≡ word_of next ∷ both_from f s (places_after f s ahead.places)
    next-first = rw told (next-taken passed.lists (rw told at some_next)).words

    next_word : word_of next ≡ opening name depth ++ to-pass.0
    next_word = cc (next-first, to-pass.2)

    next-length : length next ≡ depth + length to-pass.0
    next-length =
        sym (length-map next letter) ∙ ap (λ (w : Word). length w) next_word ∙ length-append (opening name depth) to-pass.0
        ∙ ap (λ (n : ℕ). n + length to-pass.0) long

    same : opening next depth ≡ opening name depth
    same = opening_of next depth (opening name depth) to-pass.0 long (omega (arith, next-length)) next_word

    -- it goes on: the group's letters alone are no name to come
    pub next-begins : Begins f s ahead.places next (depth + 1)
    unfolding member order
    next-begins =
        record {
          lists = passed.lists;
          next = told;
          some = some_next;
          deep = elim (ℕ_discrete depth (length next)) [
            | yes e ↦ absurd (false≢true (sym passed.grouped.longer ∙ rw (alone e)))
            | no e ↦ omega (arith, next-length)
          ];
        }
      where
        alone : depth ≡ length next
            → residual (opening name depth) (both_from f s ahead.places)
            ≡ [] ∷ residual (opening name depth) (both_from f s (places_after f s ahead.places))
        alone e =
            let whole = sym (append-nil (opening name depth) ∙ sym same ∙ opening-all next depth (omega arith)) in
            rw (next-first, whole) (residual-begun (opening name depth) ([] ∷ []) (both_from f s (places_after f s ahead.places)))

    pub deeper : depth < length next
    deeper = omega (arith, next-begins.deep)

    next-opening : opening next (depth + 1) ≡ opening name depth ++ letter (get_or next depth 0) ∷ []
    next-opening = opening-more next depth deeper ∙ ap (λ (w : Word). w ++ letter (get_or next depth 0) ∷ []) same

    pub letter-small : letter (get_or next depth 0) < letters
    letter-small =
        spelled-letter (opening next depth) _ _
        (rw (name-goes-on next depth deeper) at (name-parts next (first_taken next-begins).named).2)

    -- what is left of some words after the letters of the next group
    left-of : (l : Words) → after (letter (get_or next depth 0)) (residual (opening name depth) l) ≡ residual (opening next (depth + 1)) l
    left-of l =
        sym (ap (λ (w : Word). residual w l) next-opening ∙ residual-on (opening name depth) (letter (get_or next depth 0) ∷ []) l)

    to-come : after (letter (get_or next depth 0)) (residual (opening name depth) (both_from f s ahead.places)) ≡ group f s ahead.places next (depth + 1)
    to-come = left-of (both_from f s ahead.places)

    some_left : Filled (group f s ahead.places next (depth + 1))
    some_left =
        rw (first-opens next-begins, residual-begun (opening next (depth + 1)) (_ ∷ []) (both_from f s (places_after f s ahead.places))) tt

    all : after (letter (get_or next depth 0)) (group f s at name depth) ≡ group f s ahead.places next (depth + 1)
    all = all_words passed.grouped (letter (get_or next depth 0)) _ to-come some_left

    -- its group has a row, and is passed
    pub passed-more : (w : Table) (n : ℕ) (behind : Ahead) → BuiltGroup v w f s ahead.places next (depth + 1) n behind
        → Passed t w f s at name depth behind (set ts (letter (get_or next depth 0)) n)
    passed-more w n behind built =
        let x = letter (get_or next depth 0) in
        let k = group f s ahead.places next (depth + 1) in
        let rest = both_from f s behind.places in
        let own = own-words passed.grouped x k to-come some_left in
        let split = built.behind.split ∙ ap (λ (a : Word). begun a k ++ rest) next-opening in
        let none = built.behind.none in
        record {
          lists = built.behind.lists;
          deep = built.behind.deep ∙ ap (λ (a : Word). deep_in a rest) next-opening ∙ deep-shorter (opening name depth) x rest (rw next-opening at none);
          done = passed.done ++ map (λ w. x ∷ w) k;
          grouped = grouped-more passed.grouped x k to-come some_left rest split (left-of rest ∙ none);
          ends = ends_same passed.grouped x k to-come some_left ∙ passed.ends;
          made = targets-more passed.made w (row_count v) x n (λ y. after y (passed.done ++ map (λ w. x ∷ w) k)) letter-small
              (rw own built.made) (rw (own ∙ sym all) (within-after x letter-small (group f s at name depth)))
              (λ y h other. other-words passed.grouped x k to-come some_left y other);
        }

    -- fewer names are left
    pub passed-less : (w : Table) (n : ℕ) (behind : Ahead) → BuiltGroup v w f s ahead.places next (depth + 1) n behind
        → length (both_from f s behind.places) < length (both_from f s ahead.places)
    passed-less w n behind built = go (group f s ahead.places next (depth + 1)) some_left built.behind.split
      where
        go : (k : Words) → Filled k → both_from f s ahead.places ≡ begun (opening next (depth + 1)) k ++ both_from f s behind.places
            → length (both_from f s behind.places) < length (both_from f s ahead.places)
        go [] some split = absurd some
        go (w ∷ k) some split = rw split (omega (arith, length-append (begun (opening next (depth + 1)) k) (both_from f s behind.places)))

    -- no row is free for it
    pub passed-full : (w : Table) → MadeFull (row_count v) v w (group f s ahead.places next (depth + 1))
        → MadeFull (row_count t) t w (group f s at name depth)
    passed-full w full =
        targets-full passed.made w (row_count v) (group f s ahead.places next (depth + 1)) full
        (rw (sym all) (within-after (letter (get_or next depth 0)) letter-small (group f s at name depth)))

  -- ---- it does not: the row of the group can be made
  module _ (over : ahead.deep ≤ depth) where
    none : residual (opening name depth) (both_from f s ahead.places) ≡ []
    none =
        none-to-come (both_from f s at) (opening name depth) (both-plain begins.lists).rising _ _ (first-opens begins)
        passed.done (both_from f s ahead.places) passed.grouped (both-plain passed.lists).rising
        (deep-other (opening name depth) _ (omega (arith, long, passed.deep)))

    whole : group f s at name depth ≡ passed.done
    whole = left passed.grouped ∙ rw none (append-nil passed.done)

    ends_there : member [] (group f s at name depth) ≡ eqb (length name) depth
    ends_there = rw whole passed.ends

    group-plain : Plain (group f s at name depth)
    group-plain = plain-residual (opening name depth) _ (both-plain begins.lists)

    group-short : Each (λ w. length w ≤ longest) (group f s at name depth)
    group-short = members-each _ (group f s at name depth) (λ w m.
        let short = member-each _ (both_from f s at) (both-short begins.lists) (opening name depth ++ w) (rw member-residual at m) in
        omega (arith, rw (length-append (opening name depth) w) at short))

    pub passed-fits : Fitting v (end_mark (eqb (length name) depth)) ts
    passed-fits = targets-fit passed.made group-plain group-short (λ x h. rw whole) _ (end_marked _ (eqb (length name) depth) refl)

    pub passed-made : (w : Table) (made : Result ℕ Full) → Makes 1 v w (words_over v (end_mark (eqb (length name) depth)) ts) made
        → Makes (row_count t) t w (group f s at name depth) made
    passed-made w made m = targets-made passed.made group-plain group-short (λ x h. rw whole) w made (rw (← ends_there) at m)

    pub passed-behind : Behind f s at name depth ahead
    passed-behind =
        record {
          lists = passed.lists;
          split = passed.grouped.split ∙ ap (λ (k : Words). begun (opening name depth) k ++ both_from f s ahead.places) (sym whole);
          none = none;
          deep = passed.deep;
        }
