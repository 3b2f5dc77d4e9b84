-- The walk over bytes. What it has walked are letters: so all bytes are letters if those that are left are, and then it is the walk of their
-- word. That is what is told of a word, or that there is none. Assumes nothing.
use Prim.Native.Nat.{ℕ, suc, ◌-◌, ◌≤◌}
use native.Mathlib.Omega.{arith}
use mathlib.Core.Path.{◌≡◌, refl, sym, ◌∙◌, ap}
use mathlib.Core.Bool.{Bool, true, false, ◌&&◌, false≢true, and-eq-true_iff}
use mathlib.Core.List.{List, [], ◌∷◌}
use lib.Dec.{ltb}
use lib.ListN.{length, take, drop, length-drop, length-map}
use lib.Seq.{take_all}
use Rattle.std.specs.Prelude.{Option, Some, None}
use Rattle.std.proofs.lemmas.Option.{none-some, same_Some}
use Rattle.letters.specs.Letters.{letters, letter}
use Rattle.letters.specs.Words.{word_of}
use Rattle.letters.specs.Names.{spelled}
use Rattle.letters.proofs.Tests.{by-test}
use Rattle.sets.proofs.Membership.{fails}
use Rattle.rows.specs.Table.{Table, is_row, start, target}
use Rattle.rows.specs.Walk.{walk_from, followed as arcs_followed}
use Rattle.rows.proofs.Walk.{walk_none, walk-empty, walk-on, walk-stops}
use Rattle.walking.specs.declared.walk.Way.{Way}
use Rattle.walking.specs.declared.walk.Walked.{Walked}
use Rattle.walking.specs.Ways.{leads_to, way, way_from, walked}

module _ (t : Table) where
  -- what leads to a row is a letter
  letter-leads : (r b : ℕ) → is_row t (leads_to t r b) ≡ true → ltb (letter b) letters ≡ true
  letter-leads r b on = by-test (ltb (letter b) letters) (λ e. e) (λ e. absurd (false≢true (rw e at on)))

  left-few : (bytes : List ℕ) (r : ℕ) → (way t bytes r).left ≤ length bytes
  unfolding way
  left-few [] r = omega arith
  left-few (b ∷ bytes) r =
      by-test (is_row t (leads_to t r b)) (λ on. rw on (omega (arith, left-few bytes (leads_to t r b)))) (λ stops. rw stops (omega arith))

  left-spelled : (bytes : List ℕ) (r : ℕ) → spelled (drop (length bytes - (way t bytes r).left) bytes) ≡ spelled bytes
  unfolding way
  left-spelled [] r = refl
  left-spelled (b ∷ bytes) r =
      by-test (is_row t (leads_to t r b))
      (λ on.
      let next = leads_to t r b in
      let one : length (b ∷ bytes) - (way t bytes next).left ≡ suc (length bytes - (way t bytes next).left) = omega (arith, left-few bytes next) in
      rw (on, one) (left-spelled bytes next ∙ sym (ap (λ (first : Bool). first && spelled bytes) (letter-leads r b on))))
      (λ stops. let none : length (b ∷ bytes) - length (b ∷ bytes) ≡ 0 = omega arith in rw (stops, none))

  -- the walk of their word
  abbrev word_way : List ℕ → ℕ → Way
  word_way bytes n = let end = walk_from t (word_of bytes) n in record { row = end.row; left = length end.left }

  word-way : (bytes : List ℕ) → spelled bytes ≡ true → (r : ℕ) → is_row t r ≡ true → way t bytes r ≡ word_way bytes r
  unfolding way
  word-way [] fine r row = rw (walk-empty t r row)
  word-way (b ∷ bytes) fine r row =
      let parts = (and-eq-true_iff (ltb (letter b) letters) (spelled bytes)).0 fine in
      rw parts.0
      (by-test (is_row t (target t r (letter b)))
      (λ on. rw (on, walk-on t r row (letter b) (word_of bytes) on) (word-way bytes parts.1 (target t r (letter b)) on))
      (λ stops. rw (stops, walk-stops t r row (letter b) (word_of bytes) stops, length-map bytes letter)))

-- the bytes that are left, as the part of the slice that is handed on
abbrev left_of : List ℕ → ℕ → List ℕ
left_of bytes left = let walked = length bytes - left in take (length bytes - walked) (drop walked bytes)

all-of-left : (bytes : List ℕ) (left : ℕ) → left_of bytes left ≡ drop (length bytes - left) bytes
all-of-left bytes left =
    let walked = length bytes - left in
    take_all (length bytes - walked) (drop walked bytes) (omega (arith, length-drop walked bytes))

-- a walk over bytes from any number: some are left, all are letters if these are, and then it is the walk of their word
pub record Ends (t : Table) (bytes : List ℕ) (n : ℕ) (end : Way) : Type 0 where
  pub few : end.left ≤ length bytes
  pub same : spelled (left_of bytes end.left) ≡ spelled bytes
  pub row : spelled bytes ≡ true → end.row ≡ (walk_from t (word_of bytes) n).row
  pub left : spelled bytes ≡ true → end.left ≡ length (walk_from t (word_of bytes) n).left

pub way-ends : (t : Table) (bytes : List ℕ) (n : ℕ) → Ends t bytes n (way_from t bytes n)
way-ends t bytes n =
    by-test (is_row t n)
    (λ row.
    rw row
    (record {
      few = left-few t bytes n;
      same = rw (all-of-left bytes (way t bytes n).left) (left-spelled t bytes n);
      row = λ fine. rw (word-way t bytes fine n row);
      left = λ fine. rw (word-way t bytes fine n row);
    }))
    (λ out.
    let none : length bytes - length bytes ≡ 0 = omega arith in
    rw out
    (record {
      few = omega arith;
      same = rw (all-of-left bytes (length bytes), none);
      row = λ fine. rw (walk_none t n out (word_of bytes));
      left = λ fine. rw (walk_none t n out (word_of bytes)) (sym (length-map bytes letter));
    }))

-- ---- what is told of a word

-- the walk of the word is this
pub record WordEnds (t : Table) (m : ℕ) (bytes : List ℕ) (long : Bool) (row followed : ℕ) : Type 0 where
  pub fine : (long && spelled bytes) ≡ true
  pub at : row ≡ (walk_from t (word_of bytes) (start t m)).row
  pub arcs : followed ≡ arcs_followed t (word_of bytes) (start t m)

module _ (t : Table) (m : ℕ) (bytes : List ℕ) {told : Option Walked} {asked long : Bool} (walk : told ≡ walked t m bytes asked) (same : asked ≡ long) where
  abbrev end : Walked
  end = let w = word_of bytes in record { row = (walk_from t w (start t m)).row; followed = arcs_followed t w (start t m) }

  said : told ≡ walked t m bytes long
  said = rw same at walk

  pub word-ends : (row followed : ℕ) → told ≡ Some (record { row = row; followed = followed }) → WordEnds t m bytes long row followed
  word-ends row followed e =
      by-test (long && spelled bytes)
      (λ fine.
      let this : end ≡ record { row = row; followed = followed } = same_Some _ _ (rw fine at (sym said ∙ e)) in
      record { fine = fine; at = sym (ap (λ (w : Walked). w.row) this); arcs = sym (ap (λ (w : Walked). w.followed) this) })
      (λ bad.
      let this : ◌≡◌ {A = Option Walked} None (Some (record { row = row; followed = followed })) = rw bad at (sym said ∙ e) in
      absurd (none-some _ this))

  pub no_word : told ≡ None → (long && spelled bytes) ≡ false
  no_word e =
      fails (long && spelled bytes)
      (λ fine. let this : Some end ≡ None = rw fine at (sym said ∙ e) in none-some _ (sym this))
