-- The tests of the seven rules and the facts of a sound book say the same. What a test says is put together as the test is: of two tests, of
-- all numbers below a bound, of some. Then each rule's facts are brought into the form that `Tidy` and `Sound` have. Only the height asks for
-- more than that: the greatest of what the targets ask for is what is above them all, and no more than that. Assumes nothing.
use Prim.Native.Nat.{ℕ, ◌+◌, ◌*◌, ◌%◌, ◌≤◌, ◌<◌}
use native.Mathlib.Omega.{arith}
use native.Mathlib.Decide.{ℕ_discrete}
use mathlib.Core.Path.{◌≡◌, refl, sym}
use mathlib.Core.Logic.{◌⊎◌, inl, inr}
use mathlib.Core.Bool.{Bool, true, false, not, ◌&&◌, ◌||◌, false≢true, and-eq-true_iff}
use lib.Dec.{eqb, leb, ltb}
use lib.ListN.{length, get_or}
use borrow.Author.Tests.{ltb-true, leb-true, eqb-true, lt-ltb, le-leb, eq-eqb, ne_eqb}
use Rattle.letters.specs.Letters.{letters}
use Rattle.letters.specs.Names.{longest}
use Rattle.letters.specs.Below.{all_below}
use Rattle.letters.proofs.Below.{all-below, below_all}
use Rattle.sets.specs.Below.{some_below, greatest}
use Rattle.sets.proofs.Below.{some_below_lem, below-some, below-greatest, greatest-least}
use Rattle.model.specs.Lists.{missions}
use Rattle.rows.specs.Table.{Table, width, row_count, least_rows, most_rows, length_ok, is_row, in_use, room, used_rows}
use Rattle.rows.specs.Table.{start, mark, height, target, number39}
use Rattle.rows.specs.Rules.{every_row, every_used, start_ok, mark_ok, targets_ok, above, height_ok, has_target, is_target, agree}
use Rattle.rows.specs.Rules.{rule1, rule2, rule3, rule4, rule5, rule6, rule7, sound}
use Rattle.rows.specs.Tidy.{Used, Arc, Pointed, Sound}
use Rattle.rows.proofs.Facts.{row_inside, inside-row, in-use-used, used-in-use}

-- the test passes exactly where the fact holds
abbrev Says : Bool → Type 0 → Type 0
Says b P = (b ≡ true → P) × (P → b ≡ true)

says-as : {b : Bool} {P Q : Type 0} → Says b P → (P → Q) → (Q → P) → Says b Q
says-as s f g = (λ e. f (s.0 e), λ q. s.1 (g q))

says-not : {a : Bool} {P : Type 0} → Says a P → Says (not a) (P → ⊥)
says-not {a = true} s = (λ e. absurd (false≢true e), λ f. absurd (f (s.0 refl)))
says-not {a = false} s = (λ e p. false≢true (s.1 p), λ f. refl)

module _ {P Q : Type 0} where
  says-and : {a b : Bool} → Says a P → Says b Q → Says (a && b) (P × Q)
  says-and {a} {b} s u =
      (λ e. let (p, q) = (and-eq-true_iff a b).0 e in (s.0 p, u.0 q), λ f. rw (s.1 f.0) (u.1 f.1))

  says-either : {a b : Bool} → Says a P → Says b Q → Says (a || b) (P ⊎ Q)
  says-either {a = true} s u = (λ e. inl (s.0 refl), λ f. refl)
  says-either {a = false} s u = (λ e. inr (u.0 e), λ f. elim f [ inl p ↦ absurd (false≢true (s.1 p)) | inr q ↦ u.1 q ])

  says-else : {a b : Bool} → Says a P → Says b Q → Says (a || b) ((P → ⊥) → Q)
  says-else {a = true} s u = (λ e f. absurd (f (s.0 refl)), λ f. refl)
  says-else {a = false} s u = (λ e f. u.0 e, λ f. u.1 (f (λ p. false≢true (s.1 p))))

  says_then : {a b : Bool} → Says a P → (P → Says b Q) → Says (not a || b) (P → Q)
  says_then {a = true} s u = (λ e p. (u p).0 e, λ f. let p = s.0 refl in (u p).1 (f p))
  says_then {a = false} s u = (λ e p. absurd (false≢true (s.1 p)), λ f. refl)

module _ {P : ℕ → Type 0} {test : ℕ → Bool} (s : (i : ℕ) → Says (test i) (P i)) (n : ℕ) where
  says_all : Says (all_below n test) ((i : ℕ) → i < n → P i)
  says_all = (λ e i h. (s i).0 (all-below test n e i h), λ f. below_all test n (λ i h. (s i).1 (f i h)))

  says_some : Says (some_below n test) ((i : ℕ) × (i < n) × P i)
  says_some =
      (λ e. let (i, h, d) = some_below_lem test n e in (i, h, (s i).0 d), λ f. let (i, h, p) = f in below-some test n i h ((s i).1 p))

module _ (a b : ℕ) where
  says_eq : Says (eqb a b) (a ≡ b)
  says_eq = (eqb-true a b, eq-eqb a b)

  says-le : Says (leb a b) (a ≤ b)
  says-le = (leb-true a b, le-leb a b)

  says-lt : Says (ltb a b) (a < b)
  says-lt = (ltb-true a b, lt-ltb a b)

module _ (t : Table) where
  says_row : (r : ℕ) → Says (is_row t r) ((0 < r) × (r < row_count t))
  says_row r = (row_inside t r, λ h. inside-row t r h.0 h.1)

  says-used : (r : ℕ) → Says (in_use t r) (Used t r)
  says-used r = (in-use-used t r, λ u. used-in-use u)

  says-every-row : {P : ℕ → Type 0} {test : ℕ → Bool} → ((r : ℕ) → Says (test r) (P r))
      → Says (every_row t test) ((r : ℕ) → 0 < r → r < row_count t → P r)
  says-every-row s =
      says-as (says_all (λ r. says_then (says_row r) (λ _. s r)) (row_count t))
      (λ f r some below. f r below (some, below)) (λ f r below row. f r row.0 below)

  says-every-used : {P : ℕ → Type 0} {test : ℕ → Bool} → ((r : ℕ) → Used t r → Says (test r) (P r))
      → Says (every_used t test) ((r : ℕ) → Used t r → P r)
  says-every-used s = says-as (says_all (λ r. says_then (says-used r) (s r)) (row_count t)) (λ f r u. f r u.inside u) (λ f r below u. f r u)

  says-length : Says (length_ok t) ((length t ≡ row_count t * width) × (least_rows ≤ row_count t) × (row_count t ≤ most_rows))
  unfolding length_ok
  says-length =
      says-as (says-and (says_eq (length t % width) 0) (says-and (says-le least_rows (row_count t)) (says-le (row_count t) most_rows)))
      (λ f. (omega (arith, f), f.1.0, f.1.1)) (λ f. (omega (arith, f), (f.1, f.2)))

  pub length-facts : length_ok t ≡ true → (length t ≡ row_count t * width) × (least_rows ≤ row_count t) × (row_count t ≤ most_rows)
  length-facts = says-length.0

  -- a mission's start stands in the table
  pub start-inside : length_ok t ≡ true → (m : ℕ) → m < missions → m < length t
  start-inside e m h = let (whole, least, most) = length-facts e in omega arith

  -- 1. the head
  says-start : (n : ℕ) → Says (start_ok t n) (0 < n → Used t n × (mark t n ≡ 1))
  says-start n = says-as (says-else (says_eq n 0) (says-and (says_row n) (says_eq (mark t n) 1))) there back
    where
      there : ((n ≡ 0 → ⊥) → ((0 < n) × (n < row_count t)) × (mark t n ≡ 1)) → 0 < n → Used t n × (mark t n ≡ 1)
      there f some =
          let (row, one) = f (λ e. omega arith) in
          (record { positive = row.0; inside = row.1; marked = omega arith }, one)

      back : (0 < n → Used t n × (mark t n ≡ 1)) → (n ≡ 0 → ⊥) → ((0 < n) × (n < row_count t)) × (mark t n ≡ 1)
      back f other = let (u, one) = f (omega arith) in ((u.positive, u.inside), one)

  says-rule1 : Says (rule1 t)
      (((m : ℕ) → m < missions → 0 < start t m → Used t (start t m) × (mark t (start t m) ≡ 1))
      × ((i : ℕ) → missions ≤ i → i < width → get_or t i 0 ≡ 0))
  unfolding rule1
  says-rule1 =
      says-and (says_all (λ m. says-start (start t m)) missions)
      (says-as (says_all (λ i. says-else (says-lt i missions) (says_eq (get_or t i 0) 0)) width)
      (λ f i low h. f i h (λ e. omega arith)) (λ f i h other. f i (omega arith) h))

  -- 2. marks and free rows
  says-mark : (r : ℕ) → Says (mark_ok t r) ((mark t r ≤ 2) × (mark t r ≡ 0 → (i : ℕ) → i < width → get_or t (r * width + i) 0 ≡ 0))
  says-mark r =
      says-and (says-le (mark t r) 2)
      (says_then (says_eq (mark t r) 0) (λ _. says_all (λ i. says_eq (get_or t (r * width + i) 0) 0) width))

  says-rule2 : Says (rule2 t)
      (((r : ℕ) → Used t r → mark t r ≤ 2)
      × ((r i : ℕ) → 0 < r → r < row_count t → mark t r ≡ 0 → i < width → get_or t (r * width + i) 0 ≡ 0))
  unfolding rule2
  says-rule2 =
      says-as (says-every-row says-mark)
      (λ f. (λ r u. (f r u.positive u.inside).0, λ r i some below free. (f r some below).1 free i))
      (λ f r some below. (low r (λ m. f.0 r (record { positive = some; inside = below; marked = m })), λ free i. f.1 r i some below free))
    where
      low : (r : ℕ) → (0 < mark t r → mark t r ≤ 2) → mark t r ≤ 2
      low r f = elim (ℕ_discrete (mark t r) 0) [ yes e ↦ omega arith | no e ↦ f (omega arith) ]

  -- 3. targets and heights
  says-targets : (r : ℕ) → Used t r → Says (targets_ok t r) ((x : ℕ) → Arc t r x → Used t (target t r x))
  says-targets r u =
      says-as (says_all (λ x. says-else (says_eq (target t r x) 0) (says-used (target t r x))) letters)
      (λ f x a. f x a.letter (λ e. omega (arith, a.there)))
      (λ f x h other. f x (record { used = u; letter = h; there = omega arith }))

  -- the height of the row is above those of its targets, no more than that asks, and at most that of the longest name
  record High (r : ℕ) : Type 0 where
    lower : (x : ℕ) → Arc t r x → height t (target t r x) < height t r
    tight : (top : ℕ) → ((x : ℕ) → Arc t r x → height t (target t r x) < top) → height t r ≤ top
    low : height t r ≤ longest

  above-le : (n top : ℕ) → (0 < n → height t n < top) → above t n ≤ top
  above-le n top f = elim (ℕ_discrete n 0) [ yes e ↦ rw e (omega arith) | no e ↦ rw (ne_eqb n 0 e) (f (omega arith)) ]

  le-above : (n top : ℕ) → above t n ≤ top → 0 < n → height t n < top
  le-above n top h some = rw (ne_eqb n 0 (λ e. omega arith)) at h

  says-height : (r : ℕ) → Used t r → Says (height_ok t r) (High r)
  says-height r u = says-as (says-and (says_eq (height t r) most) (says-le (height t r) longest)) high asks
    where
      asked : ℕ → ℕ
      asked x = above t (target t r x)

      most : ℕ
      most = greatest letters asked

      -- a bound of the targets' heights is one of what they ask, and back
      bound : (top : ℕ) → ((x : ℕ) → Arc t r x → height t (target t r x) < top) → most ≤ top
      bound top f =
          greatest-least asked letters top
          (λ x h. above-le (target t r x) top (λ some. f x (record { used = u; letter = h; there = some })))

      below : (top : ℕ) → most ≤ top → (x : ℕ) → Arc t r x → height t (target t r x) < top
      below top h x a = le-above (target t r x) top (omega (arith, below-greatest asked letters x a.letter)) a.there

      high : (height t r ≡ most) × (height t r ≤ longest) → High r
      high f =
          record {
            lower = below (height t r) (omega arith);
            tight = λ top g. omega (arith, bound top g);
            low = f.1;
          }

      asks : High r → (height t r ≡ most) × (height t r ≤ longest)
      asks f = (omega (arith, bound (height t r) f.lower, f.tight most (below most (omega arith))), f.low)

  says-rule3 : Says (rule3 t)
      ((r : ℕ) → Used t r → ((x : ℕ) → Arc t r x → Used t (target t r x)) × (High r × (number39 t r ≡ 0)))
  unfolding rule3
  says-rule3 = says-every-used (λ r u. says-and (says-targets r u) (says-and (says-height r u) (says_eq (number39 t r) 0)))

  -- 4. a row where no name ends
  says-arc : (r : ℕ) → Used t r → Says (has_target t r) ((x : ℕ) × Arc t r x)
  says-arc r u =
      says-as (says_some (λ x. says-lt 0 (target t r x)) letters)
      (λ f. let (x, h, some) = f in (x, record { used = u; letter = h; there = some }))
      (λ f. let (x, a) = f in (x, a.letter, a.there))

  says-rule4 : Says (rule4 t) ((r : ℕ) → Used t r → mark t r ≡ 1 → (x : ℕ) × Arc t r x)
  unfolding rule4
  says-rule4 = says-every-used (λ r u. says_then (says_eq (mark t r) 1) (λ _. says-arc r u))

  -- 5. what points at a row
  says-target : (r : ℕ) → Used t r → Says (is_target t r) ((s : ℕ) × (x : ℕ) × Arc t s x × (target t s x ≡ r))
  says-target r u =
      says-as (says_some (λ s. says-and (says-used s) (says_some (λ x. says_eq (target t s x) r) letters)) (row_count t))
      (λ f. let (s, below, (v, (x, h, e))) = f in (s, x, record { used = v; letter = h; there = omega (arith, u.positive) }, e))
      (λ f. let (s, x, a, e) = f in (s, a.used.inside, (a.used, (x, a.letter, e))))

  says-rule5 : Says (rule5 t) ((r : ℕ) → Used t r → Pointed t r)
  unfolding rule5
  says-rule5 = says-every-used (λ r u. says-either (says_some (λ m. says_eq (start t m) r) missions) (says-target r u))

  -- 6. rows that agree
  abbrev Agree : ℕ → ℕ → Type 0
  Agree r s = (mark t r ≡ mark t s) × ((x : ℕ) → x < letters → target t r x ≡ target t s x)

  says-agree : (r s : ℕ) → Says (agree t r s) (Agree r s)
  says-agree r s = says-and (says_eq (mark t r) (mark t s)) (says_all (λ x. says_eq (target t r x) (target t s x)) letters)

  says-rule6 : Says (rule6 t) ((r s : ℕ) → Used t r → Used t s → Agree r s → r ≡ s)
  unfolding rule6
  says-rule6 =
      says-as (says-every-used (λ s v. says-not (says_some (λ r. says-and (says-used r) (says-agree r s)) s))) apart
      (λ f s v twin. let (r, h, (u, a)) = twin in omega (arith, f r s u v a))
    where
      apart : ((s : ℕ) → Used t s → (r : ℕ) × (r < s) × (Used t r × Agree r s) → ⊥) → (r s : ℕ) → Used t r → Used t s → Agree r s → r ≡ s
      apart f r s u v a =
          let not_lower : r < s → ⊥ = λ h. f s v (r, h, (u, a)) in
          let not-higher : s < r → ⊥ = λ h. f r u (s, h, (v, (sym a.0, λ x g. sym (a.1 x g)))) in
          omega arith

  -- 7. the room
  says-rule7 : Says (rule7 t) (used_rows t ≤ room t)
  unfolding rule7
  says-rule7 = says-le (used_rows t) (room t)

  pub sound-facts : sound t ≡ true → Sound t
  unfolding sound
  sound-facts e =
      let later = says-and says-rule4 (says-and says-rule5 (says-and says-rule6 says-rule7)) in
      let all = says-and says-length (says-and says-rule1 (says-and says-rule2 (says-and says-rule3 later))) in
      let (long, (one, (two, (three, (four, (five, (six, seven))))))) = all.0 e in
      record {
        tidy =
            record {
              whole = long.0;
              least = long.1;
              most = long.2;
              starts = one.0;
              rest = one.1;
              marks = two.0;
              zeros = two.1;
              targets = λ r x a. (three r a.used).0 x a;
              lower = λ r x a. (three r a.used).1.0.lower x a;
              tight = λ r top u. (three r u).1.0.tight top;
              low = λ r u. (three r u).1.0.low;
              numbers39 = λ r u. (three r u).1.1;
              arc = four;
              apart = λ r s u v marks targets. six r s u v (marks, targets);
            };
        pointed = five;
        fits = seven;
      }

  pub sound-length : sound t ≡ true → length_ok t ≡ true
  unfolding sound
  sound-length e = ((and-eq-true_iff (length_ok t) _).0 e).0

  pub facts-sound : Sound t → sound t ≡ true
  unfolding sound
  facts-sound s =
      let d = s.tidy in
      let high : (r : ℕ) → Used t r → High r = λ r u. record { lower = d.lower r; tight = λ top. d.tight r top u; low = d.low r u } in
      rw (
        says-length.1 (d.whole, d.least, d.most),
        says-rule1.1 (d.starts, d.rest),
        says-rule2.1 (d.marks, d.zeros),
        says-rule3.1 (λ r u. (d.targets r, (high r u, d.numbers39 r u))),
        says-rule4.1 d.arc,
        says-rule5.1 s.pointed,
        says-rule6.1 (λ r s u v a. d.apart r s u v a.0 a.1),
        says-rule7.1 s.fits,
      )
