-- The row for a row's words with one word on or off. Where the word ends, the mark changes; before that, the target of its first letter is the
-- row for what is left. Whether a word is among the words of a row is asked letter by letter, and so only this one word's answer changes. The
-- words of the targets are shorter than 24 letters, because those of the row have at most 24. Assumes nothing.
use Prim.Native.Nat.{ℕ, suc, ◌≤◌, ◌<◌}
use native.Mathlib.Omega.{arith}
use native.Mathlib.Decide.{ℕ_discrete}
use mathlib.Core.Path.{◌≡◌, refl, sym, ◌∙◌}
use mathlib.Core.Logic.{inl, inr}
use mathlib.Core.Bool.{Bool, true, false, cond}
use mathlib.Core.List.{List, [], ◌∷◌}
use Rattle.std.specs.Prelude.{Result, Err}
use lib.Dec.{eqb}
use lib.ListN.{length, get_or, set, length-map}
use lib.Seq.{get_or-set_same, get_or-set_other}
use borrow.Author.Tests.{eq-eqb, ne_eqb, lt-ltb}
use Rattle.letters.specs.Each.{Each}
use Rattle.letters.specs.Letters.{letters, letter}
use Rattle.letters.specs.Words.{Word, Spelled, word_of, rest, order, same}
use Rattle.letters.specs.Names.{longest}
use Rattle.letters.proofs.Words.{word-rest, rest-length, spelled-rest}
use Rattle.letters.proofs.Ordering.{same-cons, same-eq}
use Rattle.sets.specs.Sets.{Words, member}
use Rattle.sets.specs.Residuals.{after}
use Rattle.sets.proofs.Sets.{member-each, members-each, plain-ext}
use Rattle.sets.proofs.Below.{length-each, each_at}
use Rattle.sets.proofs.Residuals.{member-after}
use Rattle.model.specs.Rules.{with_name}
use Rattle.model.proofs.Names.{member-with-name, plain-with-name, with-name-empty, after-with-name}
use Rattle.rows.specs.Table.{Table}
use Rattle.rows.specs.Words.{words}
use Rattle.rows.specs.Tidy.{Named, Tidy}
use Rattle.rows.proofs.Facts.{no_row, used-row, named-cases, target-named}
use Rattle.rows.proofs.Words.{fan-empty, fan-word, fan-plain, words-plain, words-short, words-none, empty-word, words-target}
use Rattle.rows.proofs.Growth.{named-kept, words-kept}
use Rattle.growing.specs.Copies.{mark_of, target_of, targets_of}
use Rattle.growing.specs.Rows.{end_mark, words_over}
use Rattle.growing.specs.declared.makes.Full.{Full}
use Rattle.growing.specs.Growing.{Fitting, MadeRow, MadeFull, Makes}
use Rattle.growing.proofs.Growing.{Within, within-after, grows_self, makes-on, full-within}
use Rattle.growing.proofs.Targets.{end_marked, mark-ends}

-- a row's mark and targets, or those of a missing row
module _ (t : Table) (tidy : Tidy t) (r : ℕ) (named : Named t r) where
  mark-fits : (0 < mark_of t r) × (mark_of t r ≤ 2)
  mark-fits =
      elim (named-cases named) [
        | inl u ↦ rw (used-row u) (u.marked, tidy.marks r u)
        | inr e ↦ rw (no_row t r e) (omega arith, omega arith)
      ]

  -- the mark tells whether the empty word is among the words, and a target has the words that go on with its letter
  mark-empty : member [] (words t r) ≡ eqb (mark_of t r) 2
  unfolding member
  mark-empty =
      elim (named-cases named) [
        | inl u ↦ rw (used-row u) (empty-word t tidy r u)
        | inr e ↦ rw (no_row t r e, words-none t r (no_row t r e))
      ]

  target-of-named : (x : ℕ) → x < letters → Named t (target_of t r x)
  target-of-named x h =
      elim (named-cases named) [
        | inl u ↦ rw (used-row u) (target-named t tidy r x u h)
        | inr e ↦ rw (no_row t r e) (λ some. absurd (omega arith))
      ]

  target-of-words : (x : ℕ) → x < letters → words t (target_of t r x) ≡ after x (words t r)
  unfolding after
  target-of-words x h =
      elim (named-cases named) [
        | inl u ↦ rw (used-row u) (words-target t tidy r x u h)
        | inr e ↦ rw (no_row t r e, words-none t r (no_row t r e)) (words-none t 0 (no_row t 0 refl))
      ]

  target-of-short : (x : ℕ) → x < letters → Each (λ w. length w < longest) (words t (target_of t r x))
  target-of-short x h =
      rw (target-of-words x h)
      (members-each (λ w. length w < longest) (after x (words t r))
      (λ w m. member-each (λ w. length w ≤ longest) (words t r) (words-short t r) (x ∷ w) (sym (member-after x w (words t r)) ∙ m)))

  targets-at : (x : ℕ) → x < letters → get_or (targets_of t r) x 0 ≡ target_of t r x
  targets-at x h = each_at (λ x. target_of t r x) letters x 0 h

  -- the word ends here
  module _ (on : Bool) where
    pub end_fits : Fitting t (end_mark on) (targets_of t r)
    end_fits =
        record {
          some = (end_marked (end_mark on) on refl).0;
          most = (end_marked (end_mark on) on refl).1;
          named = λ x h. rw (targets-at x h) (target-of-named x h);
          short = λ x h. rw (targets-at x h) (target-of-short x h);
        }

    pub end-words : words_over t (end_mark on) (targets_of t r) ≡ with_name on [] (words t r)
    unfolding order
    end-words =
        plain-ext _ (with_name on [] (words t r)) (fan-plain (end_mark on) _ (λ x. words-plain t _)) (plain-with-name on [] _ tt (words-plain t r)) same-words
      where
        same-words : (v : Word) → Spelled v → member v (words_over t (end_mark on) (targets_of t r)) ≡ member v (with_name on [] (words t r))
        same-words [] s = rw (fan-empty, member-with-name) (mark-ends on)
        same-words (x ∷ v) s = rw (fan-word, lt-ltb x letters s.0, targets-at x s.0, target-of-words x s.0, member-after, member-with-name)

  -- the word goes on, and n is the row for what is left
  module _ (on : Bool) (x : ℕ) (w : Word) (h : x < letters) (s : Spelled w) (short : length w < longest) (u : Table) (n most : ℕ)
      (made : MadeRow most t u (with_name on w (words t (target_of t r x))) n) where
    target-here : get_or (set (targets_of t r) x n) x 0 ≡ n
    target-here = get_or-set_same (targets_of t r) x n 0 (rw (length-each (λ x. target_of t r x) letters) h)

    target-there : (y : ℕ) → y < letters → (y ≡ x → ⊥) → get_or (set (targets_of t r) x n) y 0 ≡ target_of t r y
    target-there y g other = get_or-set_other (targets_of t r) x y n 0 other ∙ targets-at y g

    kept_there : (y : ℕ) → y < letters → words u (target_of t r y) ≡ words t (target_of t r y)
    kept_there y g = words-kept t u made.grows.grown tidy (target_of t r y) (target-of-named y g)

    -- the words of the new target are as long as the others
    made-short : Each (λ v. length v < longest) (words u n)
    made-short = rw made.has (members-each (λ v. length v < longest) (with_name on w (words t (target_of t r x))) each)
      where
        each : (v : Word) → member v (with_name on w (words t (target_of t r x))) ≡ true → length v < longest
        each v m = go (same v w) refl (rw member-with-name at m)
          where
            go : (b : Bool) → same v w ≡ b → cond b on (member v (words t (target_of t r x))) ≡ true → length v < longest
            go true e d = rw (same-eq v w e) short
            go false e d = member-each (λ v. length v < longest) _ (target-of-short x h) v d

    step_fits : Fitting u (mark_of t r) (set (targets_of t r) x n)
    step_fits =
        record {
          some = mark-fits.0;
          most = mark-fits.1;
          named = λ y g. elim (ℕ_discrete y x) [
            | yes e ↦ rw (e, target-here) made.named
            | no e ↦ rw (target-there y g e) (named-kept t u made.grows.grown _ (target-of-named y g))
          ];
          short = λ y g. elim (ℕ_discrete y x) [
            | yes e ↦ rw (e, target-here) made-short
            | no e ↦ rw (target-there y g e, kept_there y g) (target-of-short y g)
          ];
        }

    step_words : words_over u (mark_of t r) (set (targets_of t r) x n) ≡ with_name on (x ∷ w) (words t r)
    step_words =
        plain-ext _ (with_name on (x ∷ w) (words t r)) (fan-plain (mark_of t r) _ (λ y. words-plain u _))
        (plain-with-name on (x ∷ w) _ (h, s) (words-plain t r)) same-words
      where
        same-words : (v : Word) → Spelled v
            → member v (words_over u (mark_of t r) (set (targets_of t r) x n)) ≡ member v (with_name on (x ∷ w) (words t r))
        same-words [] spelled = rw (fan-empty, with-name-empty) (sym mark-empty)
        same-words (y ∷ v) spelled =
            elim (ℕ_discrete y x) [
              | yes e ↦
                  rw (fan-word, lt-ltb y letters spelled.0, e, target-here, made.has, member-with-name on v, member-with-name on (x ∷ v))
                  (rw (same-cons, eq-eqb x x refl, target-of-words x h, member-after))
              | no e ↦
                  rw (fan-word, lt-ltb y letters spelled.0, target-there y spelled.0 e, kept_there y spelled.0, member-with-name)
                  (rw (same-cons, ne_eqb y x e, target-of-words y spelled.0, member-after))
            ]

  -- the same by the bytes of the name, of which there are some
  module _ (on : Bool) (name : List ℕ) (some : 0 < length name) (s : Spelled (word_of name)) (short : length name ≤ longest) where
    abbrev first : ℕ
    first = letter (get_or name 0 0)

    abbrev left : Word
    left = word_of (rest name)

    first-letter : first < letters
    first-letter = (spelled-rest name some s).0

    left-spelled : Spelled left
    left-spelled = (spelled-rest name some s).1

    left-short : length left < longest
    left-short = rw (length-map (rest name) letter) (omega (arith, rest-length name some))

    -- the target that the name goes on with
    abbrev next : ℕ
    next = get_or (targets_of t r) first 0

    pub next-named : Named t next
    next-named = rw (targets-at first first-letter) (target-of-named first first-letter)

    abbrev wanted : Words
    wanted = with_name on (word_of name) (words t r)

    -- what is left of the list after the first letter is needed where the list is
    left-within : Within (with_name on left (words t next)) wanted
    left-within =
        rw (
          targets-at first first-letter,
          target-of-words first first-letter,
          ← (after-with-name on first left (words t r) first-letter left-spelled (words-plain t r)),
          word-rest name some,
        )
        (within-after first first-letter (with_name on (first ∷ left) (words t r)))

    pub path-full : (u : Table) → MadeFull (suc (length (rest name))) t u (with_name on left (words t next)) → MadeFull (suc (length name)) t u wanted
    path-full u full =
        makes-on (grows_self t tidy wanted) u wanted (λ ls needed. needed) _ (suc (length name)) (λ n _ h. omega (arith, rest-length name some)) (Err (record {}))
        (full-within full left-within)

    module _ (u : Table) (n : ℕ) (made : MadeRow (suc (length (rest name))) t u (with_name on left (words t next)) n) where
      made-there : MadeRow (suc (length (rest name))) t u (with_name on left (words t (target_of t r first))) n
      made-there = rw (targets-at first first-letter) at made

      pub path-fits : Fitting u (mark_of t r) (set (targets_of t r) first n)
      path-fits = step_fits on first left first-letter left-spelled left-short u n _ made-there

      pub path-made : (v : Table) (new : Result ℕ Full) → Makes 1 u v (words_over u (mark_of t r) (set (targets_of t r) first n)) new
          → Makes (suc (length name)) t v wanted new
      path-made v new m =
          let same : words_over u (mark_of t r) (set (targets_of t r) first n) ≡ wanted =
          rw (word-rest name some) (step_words on first left first-letter left-spelled left-short u n _ made-there) in
          makes-on made.grows v wanted left-within 1 (suc (length name)) (λ n _ h. omega (arith, made.few, rest-length name some)) new
          (rw same at m)
