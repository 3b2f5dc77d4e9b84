-- What `make` comes to, case by case. A row in use that agrees has the words already. Mark 1 over no target has none. A new row has a mark and
-- targets as no other row has, and is higher than they are, so the table stays tidy; every other row keeps its numbers, so the rows in use keep
-- their words. Its height is at most 24, because the words of its targets are shorter than the longest name. Assumes nothing.
use Prim.Native.Nat.{ℕ, ◌+◌, ◌-◌, ◌*◌, ◌≤◌, ◌<◌}
use native.Mathlib.Omega.{arith}
use native.Mathlib.Decide.{ℕ_discrete}
use mathlib.Core.Path.{◌≡◌, refl, sym, ◌∙◌}
use mathlib.Core.Logic.{◌⊎◌, inl, inr}
use mathlib.Core.Bool.{true, and-eq-true_iff}
use mathlib.Core.List.{List, [], ◌∷◌, Memᴰ}
use lib.Dec.{eqb}
use lib.ListN.{length, get_or}
use borrow.Author.Tests.{eqb-true, eq-eqb, ne_eqb, lt-ltb}
use Rattle.letters.specs.Letters.{letters}
use Rattle.letters.specs.Names.{longest}
use Rattle.letters.specs.Words.{Word, Spelled}
use Rattle.letters.specs.LetterSet.{count_of}
use Rattle.letters.proofs.LetterSet.{count-but-one, count-positive}
use Rattle.letters.proofs.Below.{all-below, below_all}
use Rattle.sets.specs.Sets.{Words, Filled, member}
use Rattle.sets.specs.Residuals.{states}
use Rattle.sets.proofs.Below.{tests_agree, below-greatest, greatest-least}
use Rattle.sets.proofs.Sets.{members-each, member-each, plain-ext}
use Rattle.sets.proofs.Residuals.{member-after}
use Rattle.model.specs.Lists.{missions}
use Rattle.rows.specs.Table.{Table, width, row_count, start, mark, height, target, number39, in_use, used_rows}
use Rattle.rows.specs.Words.{words}
use Rattle.rows.specs.Rules.{above}
use Rattle.rows.specs.Tidy.{Used, Arc, Tidy}
use Rattle.rows.specs.Growth.{Grown, Useful}
use Rattle.rows.proofs.Facts.{no_row, used-same, in-use-used, used-in-use, named-cases, named-inside}
use Rattle.rows.proofs.Words.{fan-empty, fan-word, fan-plain, words-plain, words-none, empty-word, words-target, has_word, height-short}
use Rattle.rows.proofs.Growth.{grown-self, mark-kept, height-kept, target-kept, number39-kept, used-kept, words-kept}
use Rattle.index.specs.Index.{Indexed, agrees, Finds}
use Rattle.growing.specs.Rows.{height_over, words_over, NewRow}
use Rattle.growing.specs.Growing.{Fitting, MadeRow, MadeFull}
use Rattle.growing.proofs.Growing.{grows_self}
use Rattle.growing.proofs.Entering.{Free, none_free}

-- the row of u has this mark and these targets
record Has (u : Table) (r k : ℕ) (ts : List ℕ) : Type 0 where
  used : Used u r
  marked : mark u r ≡ k
  targeted : (x : ℕ) → x < letters → target u r x ≡ get_or ts x 0

module _ (t : Table) (r k : ℕ) (ts : List ℕ) where
  agrees_has : agrees t r k ts ≡ true → Has t r k ts
  agrees_has e =
      let (used, same) = (and-eq-true_iff (in_use t r) _).0 e in
      let (mark, targets) = (and-eq-true_iff (eqb (mark t r) k) _).0 same in
      record {
        used = in-use-used t r used;
        marked = eqb-true _ k mark;
        targeted = λ x h. eqb-true (target t r x) (get_or ts x 0) (all-below _ letters targets x h);
      }

  has-agrees : Has t r k ts → agrees t r k ts ≡ true
  has-agrees h =
      rw (used-in-use h.used, eq-eqb (mark t r) k h.marked)
      (below_all _ letters (λ x letter. eq-eqb (target t r x) (get_or ts x 0) (h.targeted x letter)))

module _ (t : Table) (k : ℕ) (ts : List ℕ) (tidy : Tidy t) (fitting : Fitting t k ts) where
  pub targets-inside : (x : ℕ) → x < letters → get_or ts x 0 < row_count t
  targets-inside x h = named-inside t tidy (get_or ts x 0) (fitting.named x h)

  -- the words of a row with the mark and the targets, in a table that has grown
  has_words : (u : Table) → Tidy u → Grown t u → (r : ℕ) → Has u r k ts → words u r ≡ words_over t k ts
  has_words u tidy' grown r h =
      plain-ext (words u r) _ (words-plain u r) (fan-plain k _ (λ x. words-plain t (get_or ts x 0))) same
    where
      same : (w : Word) → Spelled w → member w (words u r) ≡ member w (words_over t k ts)
      same [] s = rw (fan-empty, empty-word u tidy' r h.used, h.marked)
      same (x ∷ w) s =
          rw (fan-word, lt-ltb x letters s.0, ← (words-kept t u grown tidy (get_or ts x 0) (fitting.named x s.0)), ← (h.targeted x s.0))
          (rw (words-target u tidy' r x h.used s.0) (sym (member-after x w (words u r))))

  -- no target asks for more than 24
  above-fits : (x : ℕ) → x < letters → above t (get_or ts x 0) ≤ longest
  above-fits x h =
      elim (named-cases (fitting.named x h)) [
        | inl u ↦
            let l = words t (get_or ts x 0) in
            let short = members-each (λ w. length w ≤ longest - 1) l (λ w m. omega (arith, member-each (λ w. length w < longest) l (fitting.short x h) w m)) in
            let low = height-short t tidy (get_or ts x 0) u (longest - 1) short in
            rw (ne_eqb (get_or ts x 0) 0 (λ e. omega (arith, u.positive))) (omega arith)
        | inr e ↦ rw e (omega arith)
      ]

  pub height-fits : height_over t ts ≤ longest
  height-fits = greatest-least _ letters longest above-fits

  pub none_made : k ≡ 1 → ((x : ℕ) → x < letters → get_or ts x 0 ≡ 0) → MadeRow 1 t t (words_over t k ts) 0
  unfolding member
  none_made one none =
      record {
        grows = grows_self t tidy _;
        named = λ h. absurd (omega arith);
        has = plain-ext (words t 0) _ (words-plain t 0) (fan-plain k _ (λ x. words-plain t (get_or ts x 0))) same;
        few = omega arith;
      }
    where
      same : (w : Word) → Spelled w → member w (words t 0) ≡ member w (words_over t k ts)
      same [] s = rw (fan-empty, words-none t 0 (no_row t 0 refl), one)
      same (x ∷ w) s = rw (fan-word, lt-ltb x letters s.0, none x s.0, words-none t 0 (no_row t 0 refl))

  pub found-made : {f : ℕ} → Finds t (row_count t) k ts f → 0 < f → MadeRow 1 t t (words_over t k ts) f
  found-made {f} found some =
      let row = agrees_has t f k ts (found.there some) in
      record {
        grows = grows_self t tidy _;
        named = λ _. row.used;
        has = has_words t tidy (grown-self t) f row;
        few = omega arith;
      }

  pub full-made : {index : List ℕ} → Indexed t index → get_or index 0 0 ≡ 0 → MadeFull 1 t t (words_over t k ts)
  full-made indexed e =
      record {
        grows = grows_self t tidy _;
        full = count-positive (row_count t) (λ r. in_use t r) (omega (arith, tidy.least)) (rw (no_row t 0 refl)) all;
        few = omega arith;
      }
    where
      all : (r : ℕ) → 0 < r → r < row_count t → in_use t r ≡ true
      all r positive inside = used-in-use (none_free t indexed e r positive inside)

  -- a new row, where none in use agrees
  module _ (u : Table) (some : k ≡ 1 → (x : ℕ) × (x < letters) × (0 < get_or ts x 0)) (none : Finds t (row_count t) k ts 0) (r : ℕ) (free : Free t r)
      (written : NewRow t u r k (height_over t ts) ts) where
    positive : 0 < r
    positive = free.positive

    empty : mark t r ≡ 0
    empty = free.empty

    rows : row_count u ≡ row_count t
    rows = rw written.long

    new-grown : Grown t u
    new-grown =
        record {
          long = written.long;
          head = λ i h. written.others i (λ e. omega (arith, positive));
          kept = λ s i old h. written.others (s * width + i) (λ e. not_new s old (omega arith));
        }
      where
        not_new : (s : ℕ) → Used t s → s ≡ r → ⊥
        not_new s old e = let none : mark t s ≡ 0 = rw e empty in omega (arith, old.marked)

    new-has : Has u r k ts
    new-has =
        record {
          used = record { positive = positive; inside = omega (arith, free.inside); marked = omega (arith, written.marked, fitting.some) };
          marked = written.marked;
          targeted = written.targeted;
        }

    -- every row in use is the new one, or was in use
    old-or-new : (s : ℕ) → Used u s → (s ≡ r) ⊎ Used t s
    old-or-new s v =
        elim (ℕ_discrete s r) [
          | yes e ↦ inl e
          | no e ↦
              let same : mark u s ≡ mark t s = written.others (s * width) (λ d. e (omega arith)) in
              inr (used-same (sym written.long) (sym same) v)
        ]

    old-arc : (s : ℕ) → Used t s → (x : ℕ) → Arc u s x → Arc t s x
    old-arc s old x a = record { used = old; letter = a.letter; there = rw (target-kept t u new-grown s x old a.letter) at a.there }

    kept : (s : ℕ) → Used t s → Used u s
    kept s = used-kept t u new-grown s

    still-arc : (s : ℕ) → Used t s → (x : ℕ) → Arc t s x → Arc u s x
    still-arc s old x b = record { used = kept s old; letter = b.letter; there = rw (target-kept t u new-grown s x old b.letter) b.there }

    -- a target of the new row was in use
    new-target : (x : ℕ) → Arc u r x → Used t (target u r x)
    new-target x a = rw (written.targeted x a.letter) (fitting.named x a.letter (rw (written.targeted x a.letter) at a.there))

    -- and asks for a height that the new row has
    asked : (x : ℕ) → x < letters → 0 < get_or ts x 0 → height t (get_or ts x 0) < height_over t ts
    asked x h some =
        omega (arith, rw (ne_eqb (get_or ts x 0) 0 (λ e. omega arith)) at (below-greatest (λ x. above t (get_or ts x 0)) letters x h))

    new-tidy : Tidy u
    new-tidy =
        record {
          whole = omega (arith, tidy.whole, written.long);
          least = omega (arith, tidy.least);
          most = omega (arith, tidy.most);
          starts = starts;
          rest = λ i m h. new-grown.head i h ∙ tidy.rest i m h;
          marks = λ s v. elim (old-or-new s v) [
            | inl e ↦ rw e (omega (arith, written.marked, fitting.most))
            | inr old ↦ omega (arith, mark-kept t u new-grown s old, tidy.marks s old)
          ];
          zeros = zeros;
          targets = λ s x a. elim (old-or-new s a.used) [
            | inl e ↦ rw e (kept _ (new-target x (rw e at a)))
            | inr old ↦ rw (target-kept t u new-grown s x old a.letter) (kept _ (tidy.targets s x (old-arc s old x a)))
          ];
          lower = lower;
          tight = tight;
          low = λ s v. elim (old-or-new s v) [
            | inl e ↦ rw e (omega (arith, written.high, height-fits))
            | inr old ↦ omega (arith, height-kept t u new-grown s old, tidy.low s old)
          ];
          numbers39 = numbers39;
          arc = arc;
          apart = apart;
        }
      where
        starts : (m : ℕ) → m < missions → 0 < start u m → Used u (start u m) × (mark u (start u m) ≡ 1)
        starts m h some =
            let same : start u m ≡ start t m = new-grown.head m (omega arith) in
            let (old, one) = tidy.starts m h (omega arith) in
            rw same (kept _ old, mark-kept t u new-grown _ old ∙ one)

        zeros : (s i : ℕ) → 0 < s → s < row_count u → mark u s ≡ 0 → i < width → get_or u (s * width + i) 0 ≡ 0
        zeros s i p inside free' h =
            elim (ℕ_discrete s r) [
              | yes e ↦ absurd (omega (arith, written.marked, rw e at free', fitting.some))
              | no e ↦
                  let same : mark u s ≡ mark t s = written.others (s * width) (λ d. e (omega arith)) in
                  written.others (s * width + i) (λ d. e (omega arith)) ∙ tidy.zeros s i p (omega arith) (omega arith) h
            ]

        lower : (s x : ℕ) → Arc u s x → height u (target u s x) < height u s
        lower s x a =
            elim (old-or-new s a.used) [
              | inl e ↦ rw e (new-lower x (rw e at a))
              | inr old ↦
                  let b = old-arc s old x a in
                  rw (target-kept t u new-grown s x old a.letter, height-kept t u new-grown s old, height-kept t u new-grown _ (tidy.targets s x b)) (tidy.lower s x b)
            ]
          where
            new-lower : (x : ℕ) → Arc u r x → height u (target u r x) < height u r
            new-lower x a =
                rw (height-kept t u new-grown _ (new-target x a), written.high, written.targeted x a.letter)
                (asked x a.letter (rw (written.targeted x a.letter) at a.there))

        tight : (s top : ℕ) → Used u s → ((x : ℕ) → Arc u s x → height u (target u s x) < top) → height u s ≤ top
        tight s top v f =
            elim (old-or-new s v) [
              | inl e ↦ rw (e, written.high) (greatest-least _ letters top (λ x h. new-above x h (rw e at f)))
              | inr old ↦
                  rw (height-kept t u new-grown s old)
                  (tidy.tight s top old
                  (λ x b. rw (target-kept t u new-grown s x old b.letter, height-kept t u new-grown _ (tidy.targets s x b)) at (f x (still-arc s old x b))))
            ]
          where
            new-above : (x : ℕ) → x < letters → ((x : ℕ) → Arc u r x → height u (target u r x) < top) → above t (get_or ts x 0) ≤ top
            new-above x h g =
                elim (named-cases (fitting.named x h)) [
                  | inl old ↦
                      let a : Arc u r x = record { used = new-has.used; letter = h; there = rw (written.targeted x h) old.positive } in
                      let less = rw (written.targeted x h, height-kept t u new-grown _ old) at (g x a) in
                      rw (ne_eqb (get_or ts x 0) 0 (λ e. omega (arith, old.positive))) (omega arith)
                  | inr e ↦ rw e (omega arith)
                ]

        numbers39 : (s : ℕ) → Used u s → number39 u s ≡ 0
        numbers39 s v =
            elim (old-or-new s v) [
              | inl e ↦ rw e (written.rest ∙ tidy.zeros r 39 positive free.inside empty (omega arith))
              | inr old ↦ number39-kept t u new-grown s old ∙ tidy.numbers39 s old
            ]

        arc : (s : ℕ) → Used u s → mark u s ≡ 1 → (x : ℕ) × Arc u s x
        arc s v one =
            elim (old-or-new s v) [
              | inl e ↦ rw e (new-arc (rw (e, written.marked) at one))
              | inr old ↦
                  let (x, b) = tidy.arc s old (sym (mark-kept t u new-grown s old) ∙ one) in
                  (x, still-arc s old x b)
            ]
          where
            new-arc : k ≡ 1 → (x : ℕ) × Arc u r x
            new-arc one =
                let (x, h, there) = some one in
                (x, record { used = new-has.used; letter = h; there = rw (written.targeted x h) there })

        apart : (p q : ℕ) → Used u p → Used u q → mark u p ≡ mark u q → ((x : ℕ) → x < letters → target u p x ≡ target u q x) → p ≡ q
        apart p q v w marks targets =
            elim (old-or-new p v) [
              | inl d ↦ elim (old-or-new q w) [
                | inl e ↦ d ∙ sym e
                | inr old ↦ absurd (no-twin q old (sym (rw d at marks)) (λ x h. sym (rw d at (targets x h))))
              ]
              | inr old ↦ elim (old-or-new q w) [
                | inl e ↦ absurd (no-twin p old (rw e at marks) (λ x h. rw e at (targets x h)))
                | inr older ↦
                    tidy.apart p q old older (sym (mark-kept t u new-grown p old) ∙ marks ∙ mark-kept t u new-grown q older)
                    (λ x h. sym (target-kept t u new-grown p x old h) ∙ targets x h ∙ target-kept t u new-grown q x older h)
              ]
            ]
          where
            -- no row that was in use agrees with the new one
            no-twin : (s : ℕ) → Used t s → mark u s ≡ mark u r → ((x : ℕ) → x < letters → target u s x ≡ target u r x) → ⊥
            no-twin s old marks targets =
                let same : Has t s k ts = record {
                  used = old;
                  marked = sym (mark-kept t u new-grown s old) ∙ marks ∙ written.marked;
                  targeted = λ x h. sym (target-kept t u new-grown s x old h) ∙ targets x h ∙ written.targeted x h;
                } in
                none.none refl s (omega (arith, old.inside)) (has-agrees t s k ts same)

    pub new-made : MadeRow 1 t u (words_over t k ts) r
    new-made =
        record {
          grows = record { tidy = new-tidy; grown = new-grown; useful = useful };
          named = λ _. new-has.used;
          has = words-new;
          few = few;
        }
      where
        words-new : words u r ≡ words_over t k ts
        words-new = has_words u new-tidy new-grown r new-has

        in_use_lem : (s : ℕ) → s < row_count u → (s ≡ r → ⊥) → in_use u s ≡ in_use t s
        in_use_lem s h other =
            tests_agree _ _
            (λ e. elim (old-or-new s (in-use-used u s e)) [ inl d ↦ absurd (other d) | inr old ↦ used-in-use old ])
            (λ e. used-in-use (kept s (in-use-used t s e)))

        few : used_rows u ≤ used_rows t + 1
        few =
            let same : count_of (row_count u) (λ s. in_use t s) ≡ used_rows t = rw rows in
            omega (arith, count-but-one (row_count u) (λ s. in_use u s) (λ s. in_use t s) r in_use_lem)

        useful : (ls : List Words) → (Filled (words_over t k ts) → Memᴰ (words_over t k ts) (states ls)) → Useful ls t → Useful ls u
        useful ls needed us s v =
            elim (old-or-new s v) [
              | inl e ↦ rw (e, words-new) (needed (rw words-new at (has_word u new-tidy r new-has.used)))
              | inr old ↦ rw (words-kept t u new-grown tidy s (λ _. old)) (us s old)
            ]
