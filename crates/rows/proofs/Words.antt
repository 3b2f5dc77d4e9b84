-- The words of a row. Whether a word is among them is asked letter by letter: the empty word by the mark, another by its first letter at the
-- target of that letter. So the list is a plain set on every table, by its shape. On a tidy table heights fall along arcs, so the fuel is
-- enough, and membership is the walk; what is left after a letter, what a row's words are made of, and where a walk leads then follow from
-- membership alone. A row in use has a word, because heights fall until a mark is 2; and rows with the same words agree in mark and targets,
-- from below upwards, so they are one row. Assumes nothing.
use Prim.Native.Nat.{ℕ, zero, suc, ◌≤◌, ◌<◌}
use native.Mathlib.Omega.{arith}
use native.Mathlib.Decide.{ℕ_discrete}
use mathlib.Core.Path.{◌≡◌, refl, sym, ◌∙◌}
use mathlib.Core.Logic.{inl, inr}
use mathlib.Core.Bool.{Bool, true, false, cond, ◌&&◌, false≢true, or-false, and-true, and-false, and-or_distrib_left, and-eq-true_iff}
use mathlib.Core.List.{[], ◌∷◌, ◌++◌}
use lib.Dec.{eqb, ltb}
use lib.ListN.{length}
use borrow.Author.Tests.{ltb-true, eqb-true, eqb-false, lt-ltb, eq-eqb}
use Rattle.letters.specs.Each.{Each}
use Rattle.letters.specs.Letters.{letters}
use Rattle.letters.specs.Words.{Word, Spelled, order, before}
use Rattle.letters.specs.Names.{longest}
use Rattle.letters.proofs.Ordering.{order-cons, same-cons, lower-before}
use Rattle.sets.specs.Below.{some_below, over}
use Rattle.sets.specs.Sets.{Words, Filled, member, Above, Rising, Plain}
use Rattle.sets.specs.Residuals.{after, residual}
use Rattle.sets.proofs.Sets.{member-cond, member-each, members-each, members-above, rising-cond, plain-ext}
use Rattle.sets.proofs.Residuals.{member-after, residual-none, plain-after}
use Rattle.sets.proofs.Below.{some_at, member-over, rising-over}
use Rattle.sets.proofs.States.{member-filled, after_filled}
use Rattle.rows.specs.Table.{Table, is_row, mark, height, target}
use Rattle.rows.specs.Walk.{walk_from, accepts}
use Rattle.rows.specs.Words.{behind, fan, row_words, short_words, words}
use Rattle.rows.specs.Tidy.{Used, Named, Arc, Tidy}
use Rattle.rows.proofs.Facts.{no_row, used-row, named-cases, target-named, target-lower, by_height}
use Rattle.rows.proofs.Heights.{height-longest}
use Rattle.rows.proofs.Walk.{walk_none, walk-empty, walk_step, none-accepted, accepts-empty, accepts-step}

-- words with a letter before them
behind-empty : (x : ℕ) (l : Words) → member [] (behind x l) ≡ false
unfolding member order
behind-empty x [] = refl
behind-empty x (v ∷ vs) = behind-empty x vs

behind-word : (x y : ℕ) (w : Word) (l : Words) → member (y ∷ w) (behind x l) ≡ (eqb y x && member w l)
unfolding member
behind-word x y w [] = rw and-false
behind-word x y w (v ∷ vs) = rw (same-cons, behind-word x y w vs, and-or_distrib_left)

above-behind : (x : ℕ) (w : Word) (l : Words) → Above w l → Above (x ∷ w) (behind x l)
above-behind x w [] h = tt
above-behind x w (v ∷ vs) h = (rw order-cons h.0, above-behind x w vs h.1)

rising-behind : (x : ℕ) (l : Words) → Rising l → Rising (behind x l)
rising-behind x [] r = tt
rising-behind x (w ∷ ws) r = (above-behind x w ws r.0, rising-behind x ws r.1)

behind-before : (x y : ℕ) (k l : Words) (u v : Word) → x < y → member u (behind x k) ≡ true → member v (behind y l) ≡ true
    → before u v ≡ true
behind-before x y k l [] v h m g = cc (behind-empty x k)
behind-before x y k l (a ∷ u) [] h m g = cc (behind-empty y l)
behind-before x y k l (a ∷ u) (b ∷ v) h m g =
    let d = eqb-true a x ((and-eq-true_iff (eqb a x) (member u k)).0 (rw behind-word at m)).0 in
    let e = eqb-true b y ((and-eq-true_iff (eqb b y) (member v l)).0 (rw behind-word at g)).0 in
    lower-before a b u v (omega arith)

-- a mark, and what is given for each letter
module _ (mark : ℕ) (given : ℕ → Words) where
  -- those that begin with a letter
  abbrev longer : Words
  longer = over letters (λ x. behind x (given x))

  longer-empty : member [] longer ≡ false
  unfolding some_below
  longer-empty = member-over _ [] letters ∙ simp behind-empty

  fan-front : fan mark given ≡ cond (eqb mark 2) ([] ∷ longer) longer
  fan-front = elim (eqb mark 2) as (λ b. cond b ([] ∷ []) [] ++ longer ≡ cond b ([] ∷ longer) longer) [ true ↦ refl | false ↦ refl ]

  pub fan-empty : member [] (fan mark given) ≡ eqb mark 2
  unfolding order
  fan-empty = rw (fan-front, member-cond, longer-empty, or-false, and-true)

  pub fan-word : (x : ℕ) (w : Word) → member (x ∷ w) (fan mark given) ≡ (ltb x letters && member w (given x))
  unfolding order
  fan-word x w = rw (fan-front, member-cond, and-false) (member-over _ (x ∷ w) letters ∙ simp behind-word (some_at _ letters x))

  fan-rising : ((x : ℕ) → Rising (given x)) → Rising (fan mark given)
  unfolding order
  fan-rising rising = rw fan-front (rising-cond (eqb mark 2) [] longer (λ e. members-above [] longer first) rest)
    where
      first : (u : Word) → member u longer ≡ true → before [] u ≡ true
      first [] m = cc (longer-empty)
      first (x ∷ u) m = refl

      rest : Rising longer
      rest = rising-over _ (λ x. rising-behind x (given x) (rising x)) (λ x y. behind-before x y (given x) (given y)) letters

  pub fan-plain : ((x : ℕ) → Plain (given x)) → Plain (fan mark given)
  fan-plain plain = record { rising = fan-rising (λ x. (plain x).rising); spelled = members-each Spelled (fan mark given) spelled }
    where
      spelled : (u : Word) → member u (fan mark given) ≡ true → Spelled u
      spelled [] m = tt
      spelled (x ∷ u) m =
          let (h, rest) = (and-eq-true_iff (ltb x letters) _).0 (rw fan-word at m) in
          (ltb-true x letters h, member-each Spelled _ (plain x).spelled u rest)

module _ (t : Table) where
  short-plain : (most n : ℕ) → Plain (short_words most t n)
  unfolding short_words
  short-plain zero n = record { rising = tt; spelled = tt }
  short-plain (suc most) n =
      let given : ℕ → Words = λ s. short_words most t s in
      elim (is_row t n) as (λ b. Plain (cond b (row_words t n given) [])) [
        | true ↦ fan-plain (mark t n) (λ x. given (target t n x)) (λ x. short-plain most (target t n x))
        | false ↦ record { rising = tt; spelled = tt }
      ]

  short-length : (most n : ℕ) (w : Word) → member w (short_words most t n) ≡ true → length w < most
  unfolding short_words member
  short-length zero n w m = absurd (false≢true m)
  short-length (suc most) n [] m = omega arith
  short-length (suc most) n (x ∷ w) m = go (short-length most (target t n x) w) (is_row t n) m
    where
      go : (member w (short_words most t (target t n x)) ≡ true → length w < most) → (b : Bool)
          → member (x ∷ w) (cond b (row_words t n (λ s. short_words most t s)) []) ≡ true → length (x ∷ w) < suc most
      go rest true m = omega (arith, rest ((and-eq-true_iff (ltb x letters) _).0 (rw fan-word at m)).1)
      go rest false m = absurd (false≢true m)

  pub words-plain : (n : ℕ) → Plain (words t n)
  words-plain n = short-plain (suc longest) n

  pub words-short : (n : ℕ) → Each (λ w. length w ≤ longest) (words t n)
  words-short n = members-each _ (words t n) (λ w m. omega (arith, short-length (suc longest) n w m))

  short_none : (most n : ℕ) → is_row t n ≡ false → short_words most t n ≡ []
  unfolding short_words
  short_none zero n e = refl
  short_none (suc most) n e = rw e

  pub words-none : (n : ℕ) → is_row t n ≡ false → words t n ≡ []
  words-none n e = short_none (suc longest) n e

  -- it is enough to ask at a row in use
  member-used : (most : ℕ) (w : Word) (n : ℕ) → Named t n → (Used t n → member w (short_words most t n) ≡ accepts t w n)
      → member w (short_words most t n) ≡ accepts t w n
  unfolding member
  member-used most w n named used =
      elim (named-cases named) [
        | inl u ↦ used u
        | inr e ↦ let out = no_row t n e in rw (short_none most n out, none-accepted t n out w)
      ]

  module _ (tidy : Tidy t) where
    -- the fuel is enough
    member-short : (most : ℕ) (w : Word) → Spelled w → (r : ℕ) → Used t r → height t r < most
        → member w (short_words most t r) ≡ accepts t w r
    unfolding short_words
    member-short zero w s r u h = absurd (omega arith)
    member-short (suc most) [] s r u h = rw (used-row u, fan-empty, accepts-empty, used-row u)
    member-short (suc most) (x ∷ w) s r u h =
        rw (used-row u, fan-word, lt-ltb x letters s.0, accepts-step t r (used-row u) x w)
        (member-used most w (target t r x) (target-named t tidy r x u s.0)
        (λ v. member-short most w s.1 (target t r x) v (omega (arith, target-lower t tidy r x u s.0 v))))

    pub member-words : (w : Word) → Spelled w → (n : ℕ) → Named t n → member w (words t n) ≡ accepts t w n
    member-words w s n named =
        member-used (suc longest) w n named (λ u. member-short (suc longest) w s n u (omega (arith, tidy.low n u)))

    pub empty-word : (r : ℕ) → Used t r → member [] (words t r) ≡ eqb (mark t r) 2
    empty-word r u = member-words [] tt r (λ _. u) ∙ rw (accepts-empty, used-row u)

    pub words-target : (r x : ℕ) → Used t r → x < letters → words t (target t r x) ≡ after x (words t r)
    words-target r x u h =
        plain-ext (words t (target t r x)) (after x (words t r)) (words-plain (target t r x)) (plain-after x (words t r) (words-plain r))
        agrees
      where
        agrees : (w : Word) → Spelled w → member w (words t (target t r x)) ≡ member w (after x (words t r))
        agrees w s =
            member-words w s (target t r x) (target-named t tidy r x u h)
            ∙ sym (member-words (x ∷ w) (h, s) r (λ _. u) ∙ accepts-step t r (used-row u) x w)
            ∙ sym (member-after x w (words t r))

    pub words_row : (r : ℕ) → Used t r → words t r ≡ row_words t r (λ s. words t s)
    words_row r u = plain-ext (words t r) _ (words-plain r) (fan-plain (mark t r) (λ x. words t (target t r x)) (λ x. words-plain (target t r x))) agrees
      where
        agrees : (w : Word) → Spelled w → member w (words t r) ≡ member w (row_words t r (λ s. words t s))
        agrees [] s = rw (fan-empty, empty-word r u)
        agrees (x ∷ w) s = rw (fan-word, lt-ltb x letters s.0, words-target r x u s.0, member-after)

    pub has_word : (r : ℕ) → Used t r → Filled (words t r)
    has_word = by_height t tidy (λ r. Filled (words t r)) step
      where
        step : (r : ℕ) → Used t r → ((x : ℕ) → Arc t r x → Filled (words t (target t r x))) → Filled (words t r)
        step r u below =
            elim (ℕ_discrete (mark t r) 2) [
              | yes e ↦ member-filled [] (words t r) (empty-word r u ∙ eq-eqb (mark t r) 2 e)
              | no e ↦
                  let (x, a) = tidy.arc r u (omega (arith, u.marked, tidy.marks r u)) in
                  after_filled x (words t r) (rw (words-target r x u a.letter) at (below x a))
            ]

    pub filled-used : (n : ℕ) → Named t n → Filled (words t n) → Used t n
    filled-used n named f = elim (named-cases named) [ inl u ↦ u | inr e ↦ absurd (rw (words-none n (no_row t n e)) at f) ]

    -- "the height: the length of the longest word accepted from here": it is no more than that
    pub height-short : (r : ℕ) → Used t r → (top : ℕ) → Each (λ w. length w ≤ top) (words t r) → height t r ≤ top
    height-short r u top short =
        let most = height-longest t tidy r u in
        omega (arith, most.long, member-each _ (words t r) short most.word (member-words most.word most.spelled r (λ _. u) ∙ most.accepted))

    -- its words tell the row from every other in use
    abbrev Told : ℕ → Type 0
    Told r = (s : ℕ) → Used t s → words t r ≡ words t s → r ≡ s

    same-named : (n k : ℕ) → Named t n → Named t k → words t n ≡ words t k → (Used t n → Told n) → n ≡ k
    same-named n k p q e told =
        elim (named-cases p) [
          | inl u ↦ told u k (filled-used k q (rw e at (has_word n u))) e
          | inr d ↦ elim (named-cases q) [ inl v ↦ told (filled-used n p (rw e (has_word k v))) k v e | inr g ↦ d ∙ sym g ]
        ]

    -- the empty word tells the mark
    pub mark-word : (r : ℕ) → Used t r → mark t r ≡ cond (member [] (words t r)) 2 1
    mark-word r u = rw (empty-word r u) (go (eqb (mark t r) 2) refl)
      where
        go : (b : Bool) → eqb (mark t r) 2 ≡ b → mark t r ≡ cond b 2 1
        go true e = eqb-true (mark t r) 2 e
        go false e = let other = eqb-false (mark t r) 2 e in omega (arith, tidy.marks r u, u.marked)

    pub same-words : (r s : ℕ) → Used t r → Used t s → words t r ≡ words t s → r ≡ s
    same-words r s u = by_height t tidy Told step r u s
      where
        step : (r : ℕ) → Used t r → ((x : ℕ) → Arc t r x → Told (target t r x)) → Told r
        step r u below s v e =
            tidy.apart r s u v (mark-word r u ∙ rw e (sym (mark-word s v)))
            (λ x h. same-named (target t r x) (target t s x) (target-named t tidy r x u h) (target-named t tidy s x v h)
            (cc (words-target r x u h, words-target s x v h)) (λ p. below x (record { used = u; letter = h; there = p.positive })))

    -- a walk leads from a set to what is left of it
    abbrev Leads : Word → ℕ → Type 0
    Leads u n = Named t (walk_from t u n).row × (words t (walk_from t u n).row ≡ residual u (words t n))

    walk-nowhere : (u : Word) (n : ℕ) → n ≡ 0 → Leads u n
    walk-nowhere u n e =
        let out = no_row t n e in
        rw (walk_none t n out u, words-none n out, words-none 0 refl, residual-none u) (λ h. absurd (omega arith), refl)

    walk-leads : (u : Word) → Spelled u → (n : ℕ) → Named t n → Leads u n
    walk-leads [] s n named =
        elim (named-cases named) [ inl v ↦ rw (walk-empty t n (used-row v)) (named, refl) | inr e ↦ walk-nowhere [] n e ]
    walk-leads (x ∷ u) s n named =
        elim (named-cases named) [
          | inl v ↦
              rw (walk_step t n (used-row v) x u, ← (words-target n x v s.0))
              (walk-leads u s.1 (target t n x) (target-named t tidy n x v s.0))
          | inr e ↦ walk-nowhere (x ∷ u) n e
        ]

    pub walk-named : (u : Word) → Spelled u → (n : ℕ) → Named t n → Named t (walk_from t u n).row
    walk-named u s n named = (walk-leads u s n named).0

    pub words-walk : (u : Word) → Spelled u → (n : ℕ) → Named t n → words t (walk_from t u n).row ≡ residual u (words t n)
    words-walk u s n named = (walk-leads u s n named).1
