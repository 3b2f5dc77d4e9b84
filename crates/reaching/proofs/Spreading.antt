-- The marks spread row by row, by falling height and, within a height, by falling number. The order of the rows says which row is next, so no
-- row in use misses its turn. Then it is passed by, or its targets are marked. These are lower, so their turns come later: a row whose turn came
-- before is marked as it was, and its targets stay marked. At the end the marked rows hold the roots and the targets of their rows, so they are
-- the rows reached. Assumes nothing.
use Prim.Native.Nat.{ℕ, suc, ◌≤◌, ◌<◌}
use native.Mathlib.Omega.{arith}
use native.Mathlib.Decide.{ℕ_discrete}
use mathlib.Core.Path.{◌≡◌, refl, sym, ◌∙◌, ap}
use mathlib.Core.Logic.{◌⊎◌, inl, inr}
use mathlib.Core.Bool.{Bool, true, false, ◌&&◌, ◌||◌, or-true, or-false, false≢true, and-eq-true_iff}
use mathlib.Core.List.{List}
use borrow.Author.Tests.{eqb-true, eq-eqb}
use Rattle.letters.specs.Each.{Each}
use Rattle.letters.specs.Letters.{letters}
use Rattle.letters.specs.Names.{longest}
use Rattle.letters.specs.LetterSet.{count_of}
use Rattle.letters.proofs.LetterSet.{count-agree}
use Rattle.sets.proofs.Membership.{either, fails, In, each_in, in-each}
use Rattle.sets.proofs.Below.{tests_agree, some_below_lem, below-some, each-given}
use Rattle.model.specs.Lists.{missions}
use Rattle.rows.specs.Table.{Table, row_count, most_rows, is_row, start, starts, height, target}
use Rattle.rows.specs.Rules.{is_start, points_at}
use Rattle.rows.specs.Tidy.{Used, Named, Arc, Tidy}
use Rattle.rows.specs.Reach.{reached_from, reached}
use Rattle.rows.proofs.Facts.{row_inside, used-row, named-row}
use Rattle.rows.proofs.Reach.{reached-root, reached-arc, reached-all, reached-used}
use Rattle.rows.proofs.Books.{start-in, start-named, starts-named}
use Rattle.rows.proofs.Skipping.{lower-or-not}
use Rattle.minimal.proofs.Counting.{in-those, those-in}
use Rattle.chains.specs.Chains.{Latest}
use Rattle.chains.specs.Orders.{level}
use Rattle.chains.proofs.Chains.{latest-here}
use Rattle.chains.proofs.Levels.{used-level}
use Rattle.reaching.specs.Marks.{MarksMore, Marks, Roots, SpreadTo, Spreads, marked, turn, roots_of}
use Rattle.reaching.proofs.Marking.{marked_more, marks-same, roots-more, roots-none}

module _ {t : Table} where
  -- where no marked row has its turn on the way, nothing is to be marked
  pub spreads-same : {from to : ℕ} {p : List ℕ} → Roots t p
      → ((s : ℕ) → Used t s → marked p s ≡ true → to ≤ turn (height t s) s → from ≤ turn (height t s) s) → Spreads t from to p p
  spreads-same roots earlier =
      record {
        roots = roots;
        spreads = λ _ _ d.
            record { reached = d.reached; rooted = d.rooted; before = λ s x a m h. d.before s x a m (earlier s a.used m h) };
      }

  pub spreads-both : {from now to : ℕ} {p q r : List ℕ} → Spreads t from now p q → Spreads t now to q r → Spreads t from to p r
  spreads-both one two =
      record { roots = two.roots; spreads = λ roots named d. two.spreads roots named (one.spreads roots named d) }

-- the row's turn
module _ {t : Table} (tidy : Tidy t) {r : ℕ} {p : List ℕ} (u : Used t r) (roots : Roots t p) where
  -- a row whose turn has come by this one had it before, or has it now
  turn-cases : (s : ℕ) → Used t s → turn (height t r) r ≤ turn (height t s) s → (turn (height t r) (suc r) ≤ turn (height t s) s) ⊎ (s ≡ r)
  turn-cases s v early =
      elim (ℕ_discrete (turn (height t s) s) (turn (height t r) r)) [ yes e ↦ inr (omega arith) | no e ↦ inl (omega arith) ]

  module _ {q : List ℕ} (m : marked p r ≡ true) (d : MarksMore (λ s. points_at t r s) p q) where
    marked-now : (s : ℕ) → is_row t s ≡ true → marked q s ≡ (points_at t r s || marked p s)
    marked-now s row = marked_more d s (row_inside t s row).0

    stays : (s : ℕ) → is_row t s ≡ true → marked p s ≡ true → marked q s ≡ true
    stays s s-row e = rw (marked-now s s-row, e, or-true)

    -- what the row points at is the end of an arc
    pointed-arc : (s : ℕ) → is_row t s ≡ true → points_at t r s ≡ true → (x : ℕ) × Arc t r x × (target t r x ≡ s)
    pointed-arc s s-row e =
        let (x, h, same) = some_below_lem _ letters e in
        let at = eqb-true (target t r x) s same in
        (x, record { used = u; letter = h; there = omega (arith, (row_inside t s s-row).0) }, at)

    marked-cases : (s : ℕ) → is_row t s ≡ true → marked q s ≡ true → ((x : ℕ) × Arc t r x × (target t r x ≡ s)) ⊎ (marked p s ≡ true)
    marked-cases s s-row e =
        elim (either (points_at t r s) (marked p s) (sym (marked-now s s-row) ∙ e)) [ inl f ↦ inl (pointed-arc s s-row f) | inr f ↦ inr f ]

    -- the targets are lower than the row, so a row whose turn came before is none of them
    was-marked : (s : ℕ) → Used t s → marked q s ≡ true → turn (height t r) (suc r) ≤ turn (height t s) s → marked p s ≡ true
    was-marked s v e earlier =
        elim (marked-cases s (used-row v) e) [
          | inl (x, a, at) ↦
              let lower : height t s < height t r = rw at at (tidy.lower r x a) in
              absurd (omega arith)
          | inr f ↦ f
        ]

    pub row-spread : Spreads t (turn (height t r) (suc r)) (turn (height t r) r) p q
    row-spread =
        record {
          roots = roots-more d roots (λ s s-row e. let (x, a, at) = pointed-arc s s-row e in rw at at (tidy.targets r x a));
          spreads = λ from named old.
              record {
                reached = λ s s-row e.
                    elim (marked-cases s s-row e) [
                      | inl (x, a, at) ↦ rw at at (reached-arc t tidy from named r x (old.reached r (used-row u) m) a)
                      | inr f ↦ old.reached s s-row f
                    ];
                rooted = λ s i v. stays s (used-row v) (old.rooted s i v);
                before = λ s x a e early.
                    let there = used-row (tidy.targets s x a) in
                    elim (turn-cases s a.used early) [
                      | inl earlier ↦ stays (target t s x) there (old.before s x a (was-marked s a.used e earlier) earlier)
                      | inr same ↦ rw (marked-now (target t s x) there, hit s x a.letter same)
                    ];
              };
        }
      where
        hit : (s x : ℕ) → x < letters → s ≡ r → points_at t r (target t s x) ≡ true
        hit s x letter same = below-some _ letters x letter (eq-eqb (target t r x) (target t s x) (rw same))

-- the rows of one height, from the last on: none stands before the last one or between two that follow each other, and number 0 is no row
module _ {t : Table} (tidy : Tidy t) (h : ℕ) {p : List ℕ} (roots : Roots t p) where
  none_between : {n r top : ℕ} → Latest (λ s. level t s) (suc h) n r → top ≤ most_rows → ((s : ℕ) → Used t s → s < top → s < n)
      → Spreads t (turn h top) (turn h (suc r)) p p
  none_between {n} {r} {top} latest most inside =
      spreads-same roots (λ s u m early.
      elim (ℕ_discrete (height t s) h) [
        | yes e ↦ elim (lower-or-not s top) [
          | inl low ↦ absurd (omega (arith, latest-here latest s (inside s u low) (used-level u ∙ ap suc e)))
          | inr up ↦ omega arith
        ]
        | no e ↦ omega arith
      ])

  pub height-begun : {r : ℕ} → Latest (λ s. level t s) (suc h) (row_count t) r → Spreads t (turn h most_rows) (turn h (suc r)) p p
  height-begun latest = none_between latest (omega arith) (λ s u low. u.inside)

  pub height-further : {q r : ℕ} → q ≤ most_rows → Latest (λ s. level t s) (suc h) q r → Spreads t (turn h q) (turn h (suc r)) p p
  height-further most latest = none_between latest most (λ s u low. low)

  pub height-done : Spreads t (turn h 1) (turn h 0) p p
  height-done = spreads-same roots (λ s u m early. omega arith)

-- the roots are the rows that are marked
module _ (t : Table) (p : List ℕ) where
  root_in : {r : ℕ} → In r (roots_of t p) → (is_row t r ≡ true) × (marked p r ≡ true)
  root_in {r} i = (and-eq-true_iff (is_row t r) (marked p r)).0 (those-in (λ s. is_row t s && marked p s) (row_count t) i).1

  in-root : (r : ℕ) → is_row t r ≡ true → marked p r ≡ true → In r (roots_of t p)
  in-root r row m = in-those (λ s. is_row t s && marked p s) (row_count t) r (row_inside t r row).1 (rw (row, m))

  roots-named : Roots t p → Each (Named t) (roots_of t p)
  roots-named roots = in-each (Named t) (roots_of t p) (λ r i some. let (row, m) = root_in i in roots.used r row m)

-- from the first turn to the last
module _ {t : Table} (tidy : Tidy t) {p : List ℕ} (roots : Roots t p) where
  -- no row is higher than the longest name, so none has had its turn
  first-turn : SpreadTo t (roots_of t p) (turn longest most_rows) p
  first-turn =
      record {
        reached = λ r row m. reached-root t tidy (roots_of t p) (roots-named t p roots) r (in-root t p r row m) (roots.used r row m);
        rooted = λ r i u. (root_in t p i).1;
        before = λ r x a m early. absurd (omega (arith, tidy.low r a.used, tidy.most, a.used.inside));
      }

  -- a row that has an arc is higher than its target, so its turn came before those of height 0
  pub all-spread : {q : List ℕ} → Spreads t (turn longest most_rows) (turn 0 most_rows) p q → Marks t (λ s. reached_from t (roots_of t p) s) q
  all-spread {q} d =
      let named = roots-named t p roots in
      let end = d.spreads (roots_of t p) named first-turn in
      record {
        long = d.roots.long;
        marks = λ r row.
            tests_agree _ _ (end.reached r row)
            (reached-all t tidy (roots_of t p) named (λ s. marked q s ≡ true) end.rooted
            (λ s x a m. end.before s x a m (omega (arith, tidy.lower s x a))) r);
      }

-- more roots reach more
reached-more : (t : Table) → Tidy t → (ns ms : List ℕ) → Each (Named t) ns → Each (Named t) ms → ((r : ℕ) → In r ns → Used t r → In r ms)
    → (s : ℕ) → reached_from t ns s ≡ true → reached_from t ms s ≡ true
reached-more t tidy ns ms ns-named ms-named more =
    reached-all t tidy ns ns-named (λ s. reached_from t ms s ≡ true) (λ r i u. reached-root t tidy ms ms-named r (more r i u) u)
    (λ s x a e. reached-arc t tidy ms ms-named s x e a)

-- where no row was marked and the starts are then, the roots are the starts that are not 0
module _ {t : Table} (tidy : Tidy t) {none p : List ℕ} (m : Marks t (λ r. false) none) (d : MarksMore (λ s. is_start t s) none p) where
  start-used : (r : ℕ) → is_row t r ≡ true → is_start t r ≡ true → Used t r
  start-used r row e =
      let (n, h, at) = some_below_lem _ missions e in
      named-row (rw (eqb-true (start t n) r at) at (start-named t tidy n h)) row

  pub starts-marked : Roots t p
  starts-marked = roots-more d (roots-none m) start-used

  marked_start : (r : ℕ) → is_row t r ≡ true → marked p r ≡ is_start t r
  marked_start r row = marked_more d r (row_inside t r row).0 ∙ rw (m.marks r row) (or-false (is_start t r))

  start-root : (r : ℕ) → In r (starts t) → Used t r → In r (roots_of t p)
  start-root r i u = in-root t p r (used-row u) (marked_start r (used-row u) ∙ each_in _ each_start i)
    where
      each_start : Each (λ r. is_start t r ≡ true) (starts t)
      each_start = each-given (λ n. start t n) _ missions (λ n h. below-some _ missions n h (eq-eqb (start t n) (start t n) refl))

  root-start : (r : ℕ) → In r (roots_of t p) → In r (starts t)
  root-start r i =
      let (row, e) = root_in t p i in
      let (n, h, at) = some_below_lem _ missions (sym (marked_start r row) ∙ e) in
      rw (eqb-true (start t n) r at) at (start-in t n h)

  pub starts-spread : {q : List ℕ} → Marks t (λ s. reached_from t (roots_of t p) s) q → Marks t (λ s. reached t s) q
  starts-spread all =
      let named = roots-named t p starts-marked in
      marks-same all _ (λ s row.
      tests_agree _ _ (reached-more t tidy (roots_of t p) (starts t) named (starts-named t tidy) (λ r i u. root-start r i) s)
      (reached-more t tidy (starts t) (roots_of t p) (starts-named t tidy) named start-root s))

-- a row that is reached is a row
pub reached-count : {t : Table} → Tidy t → {keep : List ℕ} → Marks t (λ s. reached t s) keep
    → count_of (row_count t) (λ r. is_row t r && marked keep r) ≡ count_of (row_count t) (λ r. reached t r)
reached-count {t} tidy {keep} m =
    count-agree (row_count t) _ _ (λ r h. go r (is_row t r) refl)
  where
    go : (r : ℕ) (b : Bool) → is_row t r ≡ b → (b && marked keep r) ≡ reached t r
    go r true row = m.marks r row
    go r false out =
        sym (fails (reached t r) (λ e. false≢true (sym out ∙ used-row (reached-used t tidy (starts t) (starts-named t tidy) r e))))
