-- Sweeping row by row. A table is `only_rows` of another if its head is the same and every number behind it is as the test of its row says. So
-- tests that agree at every row keep the same rows, a test that passes at every row keeps the table, and two tests one after the other keep
-- what passes both. A row is freed by a write to its part of the table. Assumes nothing.
use Prim.Native.Nat.{ℕ, ◌+◌, ◌-◌, ◌*◌, ◌/◌, ◌≤◌, ◌<◌}
use native.Mathlib.Omega.{arith}
use native.Mathlib.Decide.{ℕ_discrete, dec_lt}
use mathlib.Core.Path.{◌≡◌, refl, sym, ◌∙◌}
use mathlib.Core.Bool.{Bool, true, false, not, cond, ◌&&◌, ◌||◌, or-true, and-true}
use mathlib.Core.List.{List}
use lib.Dec.{eqb, leb}
use lib.ListN.{length, get_or, replicate, length-replicate}
use lib.Seq.{ext_get_or}
use borrow.Author.Tests.{eq-eqb, ne_eqb, le-leb, lt-leb}
use borrow.Author.Rules.{rules}
use borrow.Rule.Slice.PartMut.{put_mid}
use Rattle.std.proofs.lemmas.List.{places}
use Rattle.rows.specs.Table.{Table, width, row_count}
use Rattle.rows.specs.Reach.{only_rows}
use Rattle.rows.proofs.Facts.{inside-row}
use Rattle.rows.proofs.Zeros.{zero-cell}
use Rattle.reaching.specs.Marks.{Marks, marked}
use Rattle.settling.proofs.Swept.{only-length, only-head, only-behind}

-- what holds of every state row that begins in the table
abbrev AtRows : Table → (ℕ → Type 0) → Type 0
AtRows t P = (r : ℕ) → 0 < r → r * width < length t → P r

module _ (t v : Table) (test : ℕ → Bool) where
  only-is : length v ≡ length t → ((j : ℕ) → j < width → j < length t → get_or v j 0 ≡ get_or t j 0)
      → ((j : ℕ) → width ≤ j → j < length t → get_or v j 0 ≡ cond (test (j / width)) (get_or t j 0) 0) → v ≡ only_rows t test
  only-is long head behind =
      ext_get_or 0 v (only_rows t test) (long ∙ sym (only-length t test))
      (λ j h.
      let inside : j < length t = rw long at h in
      elim (dec_lt j width) [
        | yes low ↦ head j low inside ∙ sym (only-head t test j low inside)
        | no far ↦ behind j (omega arith) inside ∙ sym (only-behind t test j (omega arith) inside)
      ])

module _ (t : Table) (f : ℕ → Bool) where
  only-all : AtRows t (λ r. f r ≡ true) → only_rows t f ≡ t
  only-all all = sym (only-is t t f refl (λ j h inside. refl) (λ j h inside. rw (all (j / width) (omega arith) (omega arith))))

  only-agree : (g : ℕ → Bool) → AtRows t (λ r. f r ≡ g r) → only_rows t f ≡ only_rows t g
  only-agree g agree =
      only-is t (only_rows t f) g (only-length t f) (only-head t f)
      (λ j h inside. only-behind t f j h inside ∙ rw (agree (j / width) (omega arith) (omega arith)))

  only-twice : (g : ℕ → Bool) → only_rows (only_rows t f) g ≡ only_rows t (λ r. f r && g r)
  only-twice g =
      only-is t (only_rows (only_rows t f) g) (λ r. f r && g r) (only-length (only_rows t f) g ∙ only-length t f)
      (λ j h inside. only-head (only_rows t f) g j h (rw (only-length t f) inside) ∙ only-head t f j h inside)
      (λ j h inside.
      only-behind (only_rows t f) g j h (rw (only-length t f) inside)
      ∙ rw (only-behind t f j h inside) (both (f (j / width)) (g (j / width)) (get_or t j 0)))
    where
      both : (a b : Bool) (n : ℕ) → cond b (cond a n 0) 0 ≡ cond (a && b) n 0
      both true b n = refl
      both false true n = refl
      both false false n = refl

-- a part of the table is written: the numbers before it and behind it stay
module _ (t ys : Table) (a k : ℕ) (inside : a + k ≤ length t) (long : length ys ≡ k) where
  written-long : length (put_mid a k t ys) ≡ length t
  written-long = search (rules, places)

  written-before : (j : ℕ) → j < a → get_or (put_mid a k t ys) j 0 ≡ get_or t j 0
  written-before j h = search (rules, places)

  written-here : (j : ℕ) → a ≤ j → j < a + k → get_or (put_mid a k t ys) j 0 ≡ get_or ys (j - a) 0
  written-here j low h = search (rules, places)

  written-behind : (j : ℕ) → a + k ≤ j → get_or (put_mid a k t ys) j 0 ≡ get_or t j 0
  written-behind j h = search (rules, places)

-- the part is a row, and it is zeros after
pub freed : (t ys : Table) (r k : ℕ) → 0 < r → r < row_count t → k ≡ width → ys ≡ replicate width 0
    → put_mid (r * width) k t ys ≡ only_rows t (λ s. not (eqb s r))
freed t ys r k some below full zeros =
    let inside : r * width + k ≤ length t = omega arith in
    let long : length ys ≡ k = rw (zeros, length-replicate {A = ℕ} width 0) (sym full) in
    only-is t _ (λ s. not (eqb s r)) (written-long t ys (r * width) k inside long)
    (λ j h _. written-before t ys (r * width) k inside long j (omega arith))
    (λ j h _.
    elim (ℕ_discrete (j / width) r) [
      | yes e ↦ rw (eq-eqb (j / width) r e, written-here t ys (r * width) k inside long j (omega arith) (omega arith), zeros) (zero-cell width (j - r * width))
      | no e ↦ rw (ne_eqb (j / width) r e)
          (elim (dec_lt j (r * width)) [
            | yes low ↦ written-before t ys (r * width) k inside long j low
            | no high ↦ written-behind t ys (r * width) k inside long j (omega arith)
          ])
    ])

-- the test at a row's own turn: all other rows stay, and the row does if it is marked
abbrev others : List ℕ → ℕ → ℕ → Bool
others keep r s = not (eqb s r) || marked keep s

module _ (t : Table) (keep : List ℕ) (r : ℕ) where
  pub marked-stays : marked keep r ≡ true → t ≡ only_rows t (λ s. not (eqb s r) || marked keep s)
  marked-stays e =
      sym (only-all t (others keep r) (λ s some inside.
      elim (ℕ_discrete s r) [ yes d ↦ rw (d, e, or-true) | no d ↦ rw (ne_eqb s r d) ]))

-- the rows from r on, whose turn is still to come, and those that are marked
abbrev pub stays : List ℕ → ℕ → ℕ → Bool
stays keep r s = leb r s || marked keep s

module _ (t : Table) (keep : List ℕ) where
  pub stays-first : t ≡ only_rows t (λ s. stays keep 1 s)
  stays-first = sym (only-all t (λ s. stays keep 1 s) (λ s some inside. rw (le-leb 1 s some)))

  pub stays-more : (v w : Table) (r : ℕ) → v ≡ only_rows t (λ s. stays keep r s)
      → w ≡ only_rows v (λ s. not (eqb s r) || marked keep s) → w ≡ only_rows t (λ s. stays keep (r + 1) s)
  stays-more v w r before now =
      now
      ∙ rw before
      (only-twice t (λ s. stays keep r s) (others keep r)
      ∙ only-agree t (λ s. stays keep r s && others keep r s) (λ s. stays keep (r + 1) s) (λ s some inside. agree s))
    where
      agree : (s : ℕ) → (stays keep r s && others keep r s) ≡ stays keep (r + 1) s
      agree s =
          elim (ℕ_discrete s r) [
            | yes e ↦ rw (e, le-leb r r (omega arith), eq-eqb r r refl, lt-leb (r + 1) r (omega arith))
            | no e ↦
                elim (dec_lt r s) [
                  | yes h ↦ rw (le-leb r s (omega arith), ne_eqb s r e, le-leb (r + 1) s (omega arith))
                  | no h ↦ rw (lt-leb r s (omega arith), ne_eqb s r e, lt-leb (r + 1) s (omega arith), and-true)
                ]
          ]

  pub stays-done : (v : Table) (r : ℕ) → length t ≡ row_count t * width → row_count t ≤ r → v ≡ only_rows t (λ s. stays keep r s)
      → v ≡ only_rows t (λ s. marked keep s)
  stays-done v r whole past now =
      now ∙ only-agree t (λ s. stays keep r s) (λ s. marked keep s) (λ s some inside. rw (lt-leb r s (omega arith)))

-- marking the rows that pass a test and keeping the marked ones keeps those that pass
pub marks-only : (t : Table) (test : ℕ → Bool) (keep : List ℕ) → length t ≡ row_count t * width → Marks t test keep
    → only_rows t (λ r. marked keep r) ≡ only_rows t test
marks-only t test keep whole marks =
    only-agree t (λ r. marked keep r) test (λ r some inside. marks.marks r (inside-row t r some (omega arith)))
