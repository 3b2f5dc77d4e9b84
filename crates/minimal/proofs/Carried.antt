-- What a renumbering carries, whatever numbers the two tables hold. A number is a row exactly if the number that it is carried to is one. So a
-- walk goes the same way and ends where the other's end is carried to, with the same letters left; ask and next say the same, and the words are
-- the same. No two numbers are carried to the same; so a renumbering goes back, and another goes on from it. Assumes nothing.
use Prim.Native.Nat.{ℕ, ◌<◌}
use native.Mathlib.Omega.{arith}
use mathlib.Core.Path.{◌≡◌, refl, sym, ◌∙◌, ap}
use mathlib.Core.Bool.{true, false, cond}
use mathlib.Core.List.{[], ◌∷◌}
use lib.ListN.{get_or, length}
use lib.Seq.{ext_get_or}
use Rattle.letters.specs.Letters.{letters}
use Rattle.letters.specs.Words.{Word, Spelled}
use Rattle.letters.proofs.Tests.{by-test}
use Rattle.model.specs.Lists.{missions}
use Rattle.rows.specs.Table.{Table, is_row, start, mark, height, target, number39, ends}
use Rattle.rows.specs.Walk.{Walk, walk_from, accepts, followed, has_arc, follows}
use Rattle.rows.specs.Words.{words, lists}
use Rattle.rows.proofs.Walk.{walk_none, walk-empty, walk-on, walk-stops}
use Rattle.rows.proofs.Books.{lists-sixteen, list-names}
use Rattle.rows.proofs.Growth.{words-carried}
use Rattle.minimal.specs.Renumbered.{Renumbered}

module _ (t u : Table) (by : Renumbered t u) where
  abbrev to : ℕ → ℕ
  to n = by.to n

  pub to_none : by.to 0 ≡ 0
  to_none = by.others 0 refl

  same_row : (n : ℕ) → is_row u n ≡ is_row t n
  same_row n = rw by.long

  to-is-row : (n : ℕ) → is_row u (to n) ≡ is_row t n
  to-is-row n = by-test (is_row t n) (λ row. by.to_row n row ∙ sym row) (λ out. rw (by.others n out) (same_row n))

  -- a walk whose end is carried
  abbrev carried : Walk → Walk
  carried walk = record { row = to walk.row; left = walk.left }

  nowhere-to : (w : Word) (n : ℕ) → is_row t n ≡ false → walk_from u w (to n) ≡ carried (walk_from t w n)
  nowhere-to w n out = rw (walk_none t n out w, walk_none u (to n) (to-is-row n ∙ out) w, to_none)

  to-walk : (w : Word) → Spelled w → (n : ℕ) → walk_from u w (to n) ≡ carried (walk_from t w n)
  to-walk [] s n = by-test (is_row t n) (λ row. rw (walk-empty t n row, walk-empty u (to n) (by.to_row n row))) (nowhere-to [] n)
  to-walk (x ∷ w) s n =
      by-test (is_row t n)
      (λ row.
      let there = by.to_row n row in
      let arc = by.targets n x row s.0 in
      by-test (is_row t (target t n x))
      (λ on.
      let on-there : is_row u (target u (to n) x) ≡ true = rw arc (by.to_row (target t n x) on) in
      rw (walk-on t n row x w on, walk-on u (to n) there x w on-there, arc) (to-walk w s.1 (target t n x)))
      (λ stops.
      let stops-there : is_row u (target u (to n) x) ≡ false = rw arc (to-is-row (target t n x) ∙ stops) in
      rw (walk-stops t n row x w stops, walk-stops u (to n) there x w stops-there, to_none)))
      (nowhere-to (x ∷ w) n)

  to-ends : (n : ℕ) → ends u (to n) ≡ ends t n
  to-ends n = by-test (is_row t n) (λ row. rw (to-is-row n, by.marks n row)) (λ out. rw (to-is-row n, out))

  to-arc : (n x : ℕ) → x < letters → has_arc u (to n) x ≡ has_arc t n x
  to-arc n x h =
      by-test (is_row t n) (λ row. rw (to-is-row n, by.targets n x row h, to-is-row (target t n x))) (λ out. rw (to-is-row n, out))

  pub to-accepts : (w : Word) → Spelled w → (n : ℕ) → accepts u w (by.to n) ≡ accepts t w n
  to-accepts w s n = rw (to-walk w s n) (to-ends (walk_from t w n).row)

  pub to-followed : (w : Word) → Spelled w → (n : ℕ) → followed u w (by.to n) ≡ followed t w n
  to-followed w s n = rw (to-walk w s n)

  pub to-follows : (w : Word) → Spelled w → (n x : ℕ) → x < letters → follows u w (by.to n) x ≡ follows t w n x
  to-follows w s n x h = rw (to-walk w s n) (to-arc (walk_from t w n).row x h)

  pub to-words : (n : ℕ) → words u (by.to n) ≡ words t n
  to-words n =
      words-carried t u (λ n. Unit {0}) by.to (λ n _. to-is-row n) (λ n _. by.marks n) (λ n x _ row h. (tt, by.targets n x row h)) n tt

  pub to-lists : lists u ≡ lists t
  to-lists = ext_get_or [] (lists u) (lists t) (lists-sixteen u ∙ sym (lists-sixteen t)) names_same
    where
      names_same : (m : ℕ) → m < length (lists u) → get_or (lists u) m [] ≡ get_or (lists t) m []
      names_same m h =
          let below : m < missions = omega (arith, lists-sixteen u) in
          list-names u m below ∙ (rw (by.starts m below) (to-words (start t m)) ∙ sym (list-names t m below))

  -- every row of u is `to` of one of t
  pub each_row : (P : ℕ → Type 0) → ((r : ℕ) → is_row t r ≡ true → P (by.to r)) → (s : ℕ) → is_row u s ≡ true → P s
  each_row P f s row = rw (by.to_from s row) at (f (by.from s) (by.from_row s row))

  -- the way back
  abbrev home : ℕ → ℕ
  home n = cond (is_row u n) (by.from n) n

  home-to : (n : ℕ) → home (to n) ≡ n
  home-to n = by-test (is_row t n) (λ row. rw (by.to_row n row) (by.from_to n row)) (λ out. rw (to-is-row n, out) (by.others n out))

  pub to_one : (m n : ℕ) → by.to m ≡ by.to n → m ≡ n
  to_one m n e = sym (home-to m) ∙ (ap home e ∙ home-to n)

  pub home-renumbered : Renumbered u t
  home-renumbered =
      record {
        to = home;
        from = by.to;
        long = sym by.long;
        to_row = each_row (λ s. is_row t (home s) ≡ true) (λ r row. rw (home-to r) row);
        from_row = by.to_row;
        from_to = λ s row. rw row (by.to_from s row);
        to_from = λ r row. home-to r;
        others = λ n out. rw out;
        starts = λ m h. rw (by.starts m h) (sym (home-to (start t m)));
        rest = λ i low high. sym (by.rest i low high);
        marks = each_row (λ s. mark t (home s) ≡ mark u s) (λ r row. rw (home-to r) (sym (by.marks r row)));
        heights = each_row (λ s. height t (home s) ≡ height u s) (λ r row. rw (home-to r) (sym (by.heights r row)));
        targets = λ s x row h.
            each_row (λ s. target t (home s) x ≡ home (target u s x))
            (λ r row. rw (home-to r, by.targets r x row h) (sym (home-to (target t r x)))) s row;
        numbers39 = each_row (λ s. number39 t (home s) ≡ number39 u s) (λ r row. rw (home-to r) (sym (by.numbers39 r row)));
      }

pub on-renumbered : (t u v : Table) → Renumbered t u → Renumbered u v → Renumbered t v
on-renumbered t u v by on =
    record {
      to = λ n. on.to (by.to n);
      from = λ n. by.from (on.from n);
      long = on.long ∙ by.long;
      to_row = λ r row. on.to_row _ (by.to_row r row);
      from_row = λ r row. by.from_row _ (on.from_row r row);
      from_to = λ r row. rw (on.from_to (by.to r) (by.to_row r row)) (by.from_to r row);
      to_from = λ r row. rw (by.to_from (on.from r) (on.from_row r row)) (on.to_from r row);
      others = λ n out. rw (by.others n out) (on.others n (same_row t u by n ∙ out));
      starts = λ m h. on.starts m h ∙ ap on.to (by.starts m h);
      rest = λ i low high. on.rest i low high ∙ by.rest i low high;
      marks = λ r row. on.marks _ (by.to_row r row) ∙ by.marks r row;
      heights = λ r row. on.heights _ (by.to_row r row) ∙ by.heights r row;
      targets = λ r x row h. on.targets _ x (by.to_row r row) h ∙ ap on.to (by.targets r x row h);
      numbers39 = λ r row. on.numbers39 _ (by.to_row r row) ∙ by.numbers39 r row;
    }
