-- The sixteen lists of a table, and the rows of a sound book. The lists are plain on every table, and on a tidy one they are lists of names: a
-- start has mark 1, so the empty word is none of its words. There ask and next say what the plain sets say: whether the name is there, how far
-- it gets, what may follow. In a sound book every row in use is reached from a start: it is one, or the target of a higher row; and no row is
-- higher than the longest name. Assumes nothing.
use Prim.Native.Nat.{ℕ, zero, suc, ◌+◌, ◌<◌}
use native.Mathlib.Omega.{arith}
use mathlib.Core.Path.{◌≡◌, refl, sym, ◌∙◌}
use mathlib.Core.Logic.{inl, inr}
use mathlib.Core.Bool.{true, false}
use mathlib.Core.List.{[], ◌∷◌}
use lib.ListN.{length, length-map, get_or-map}
use Rattle.letters.specs.Each.{Each}
use Rattle.letters.specs.Letters.{letters}
use Rattle.letters.specs.Words.{Word, Spelled, bytes_of}
use Rattle.letters.specs.Names.{longest, is_name}
use Rattle.letters.proofs.Words.{name-bytes}
use Rattle.sets.specs.Sets.{Words, Filled, member, Plain}
use Rattle.sets.specs.Residuals.{after}
use Rattle.sets.proofs.Sets.{member-each, members-each}
use Rattle.sets.proofs.Membership.{In, here, each_map}
use Rattle.sets.proofs.Below.{in-over, length-each, each_at, each-given}
use Rattle.model.specs.Lists.{missions, list_of, has_names, may_follow}
use Rattle.model.specs.Prefixes.{how_far}
use Rattle.model.proofs.Prefixes.{how-far-none, how-far-empty, how-far-step}
use Rattle.rows.specs.Table.{Table, is_row, start, starts, height, target}
use Rattle.rows.specs.Walk.{walk_from, accepts, followed, has_arc, follows}
use Rattle.rows.specs.Words.{short_words, words, names, lists}
use Rattle.rows.specs.Tidy.{Used, Named, Tidy, Sound}
use Rattle.rows.specs.Reach.{reached}
use Rattle.rows.proofs.Facts.{no_row, used-row, named-cases, target-named}
use Rattle.rows.proofs.Words.{words-plain, words-short, words-none, member-words, empty-word, words-target, has_word}
use Rattle.rows.proofs.Words.{walk-named, words-walk}
use Rattle.rows.proofs.Walk.{followed-none, followed-step}
use Rattle.rows.proofs.Reach.{reached-root, reached-arc}

filled-names : (l : Words) → Filled l → has_names l ≡ true
filled-names [] f = absurd f
filled-names (w ∷ l) f = refl

module _ (t : Table) where
  pub start-in : (m : ℕ) → m < missions → In (start t m) (starts t)
  start-in m h = in-over (λ i. start t i ∷ []) missions m h (here refl)

  pub lists-sixteen : length (lists t) ≡ missions
  lists-sixteen = length-map (starts t) (λ n. words t n) ∙ length-each (λ m. start t m) missions

  pub list-names : (m : ℕ) → m < missions → list_of (lists t) m ≡ names t m
  unfolding short_words
  list-names m h = get_or-map (λ n. words t n) (starts t) m 0 ∙ rw (each_at (λ m. start t m) missions m 0 h)

  pub no_start : (m : ℕ) → m < missions → start t m ≡ 0 → list_of (lists t) m ≡ []
  no_start m h e = list-names m h ∙ words-none t (start t m) (no_row t (start t m) e)

  each-list : (P : Words → Type 0) → ((m : ℕ) → m < missions → P (names t m)) → Each P (lists t)
  each-list P f = each_map P (λ n. words t n) (starts t) (each-given (λ m. start t m) _ missions f)

  pub lists-plain : Each Plain (lists t)
  lists-plain = each-list Plain (λ m h. words-plain t (start t m))

  module _ (tidy : Tidy t) where
    pub start-named : (m : ℕ) → m < missions → Named t (start t m)
    start-named m h some = (tidy.starts m h some).0

    pub starts-named : Each (Named t) (starts t)
    starts-named = each-given (λ m. start t m) (Named t) missions start-named

    pub ask-plain : (m : ℕ) → m < missions → (w : Word) → Spelled w → accepts t w (start t m) ≡ member w (list_of (lists t) m)
    ask-plain m h w s = rw (list-names m h) (sym (member-words t tidy w s (start t m) (start-named m h)))

    -- "The empty word is no name"
    pub no_empty : (m : ℕ) → m < missions → member [] (names t m) ≡ false
    unfolding member
    no_empty m h =
        elim (named-cases (start-named m h)) [
          | inl u ↦ empty-word t tidy (start t m) u ∙ rw (tidy.starts m h u.positive).1
          | inr e ↦ rw (words-none t (start t m) (no_row t (start t m) e))
        ]

    pub lists-names : Each (Each (λ w. is_name (bytes_of w) ≡ true)) (lists t)
    lists-names = each-list _ (λ m h. members-each _ (names t m) (name m h))
      where
        name : (m : ℕ) → m < missions → (w : Word) → member w (names t m) ≡ true → is_name (bytes_of w) ≡ true
        name m h [] i = cc (no_empty m h)
        name m h (x ∷ w) i =
            name-bytes (x ∷ w) (omega arith) (member-each _ (names t m) (words-short t (start t m)) (x ∷ w) i)
            (member-each Spelled (names t m) (words-plain t (start t m)).spelled (x ∷ w) i)

    pub row-names : (n : ℕ) → Named t n → is_row t n ≡ has_names (words t n)
    row-names n named =
        elim (named-cases named) [
          | inl u ↦ rw (used-row u, filled-names (words t n) (has_word t tidy n u))
          | inr e ↦ let out = no_row t n e in rw (out, words-none t n out)
        ]

    -- "the start row of mission m, or 0 if its list is empty"
    pub start-names : (m : ℕ) → m < missions → 0 < start t m → has_names (list_of (lists t) m) ≡ true
    start-names m h some = let named = start-named m h in rw (list-names m h, ← (row-names (start t m) named)) (used-row (named some))

    row-follows : (n x : ℕ) → Named t n → x < letters → has_arc t n x ≡ has_names (after x (words t n))
    unfolding after
    row-follows n x named h =
        elim (named-cases named) [
          | inl u ↦ rw (used-row u, ← (words-target t tidy n x u h)) (row-names (target t n x) (target-named t tidy n x u h))
          | inr e ↦ let out = no_row t n e in rw (out, words-none t n out)
        ]

    pub next-plain : (m : ℕ) → m < missions → (u : Word) → Spelled u → (x : ℕ) → x < letters
        → follows t u (start t m) x ≡ may_follow u (list_of (lists t) m) x
    next-plain m h u s x g =
        let named = start-named m h in
        rw (list-names m h, ← (words-walk t tidy u s (start t m) named))
        (row-follows (walk_from t u (start t m)).row x (walk-named t tidy u s (start t m) named) g)

    -- how far a word gets from a row, and from a mission's start
    row-far : (w : Word) → Spelled w → (n : ℕ) → Named t n → followed t w n ≡ how_far w (words t n)
    row-far [] s n named = rw (how-far-empty (words t n)) (omega arith)
    row-far (x ∷ w) s n named =
        elim (named-cases named) [
          | inl u ↦
              let below = target-named t tidy n x u s.0 in
              rw (followed-step t n (used-row u) x w, how-far-step x w (words t n), ← (words-target t tidy n x u s.0))
              (rw (row-names (target t n x) below, row-far w s.1 (target t n x) below))
          | inr e ↦ let out = no_row t n e in rw (followed-none t n out (x ∷ w), words-none t n out) (sym (how-far-none (x ∷ w)))
        ]

    pub far-plain : (m : ℕ) → m < missions → (w : Word) → Spelled w → followed t w (start t m) ≡ how_far w (list_of (lists t) m)
    far-plain m h w s = rw (list-names m h) (row-far w s (start t m) (start-named m h))

  pub sound-reached : Sound t → (r : ℕ) → Used t r → reached t r ≡ true
  sound-reached sound r u = climb (suc longest) r u (omega arith)
    where
      roots : Each (Named t) (starts t)
      roots = starts-named sound.tidy

      climb : (left r : ℕ) → Used t r → longest < height t r + left → reached t r ≡ true
      climb zero r u h = absurd (omega (arith, sound.tidy.low r u))
      climb (suc left) r u h =
          elim (sound.pointed r u) [
            | inl p ↦ let (m, g, e) = p in reached-root t sound.tidy (starts t) roots r (rw e at (start-in m g)) u
            | inr p ↦
                let (s, x, a, e) = p in
                let higher : height t r < height t s = rw e at (sound.tidy.lower s x a) in
                rw e at (reached-arc t sound.tidy (starts t) roots s x (climb left s a.used (omega arith)) a)
          ]
