-- How arcs are counted: letter by letter and row by row; a letter without a target counts for no row, no more arcs lead to a row than there are
-- letters in all rows, and a row that comes into use adds its own. An array that counts them grows by one for each arc. Assumes nothing.
use Prim.Native.Nat.{ℕ, suc, ◌+◌, ◌*◌, ◌≤◌, ◌<◌}
use native.Mathlib.Omega.{arith}
use native.Mathlib.Decide.{ℕ_discrete}
use mathlib.Core.Path.{◌≡◌, refl, sym, ap, ◌∙◌}
use mathlib.Core.Bool.{Bool, true, false, cond}
use mathlib.Core.List.{List}
use borrow.Author.Tests.{eqb-true, eq-eqb, ne_eqb}
use lib.Dec.{eqb}
use lib.ListN.{length, get_or, set, length-set}
use lib.Seq.{get_or-set_same, get_or-set_other}
use Rattle.letters.specs.Letters.{letters}
use Rattle.letters.specs.LetterSet.{flag}
use Rattle.letters.proofs.LetterSet.{flag-le}
use Rattle.sets.specs.Below.{total}
use Rattle.sets.proofs.Below.{total-agree, total-but-one, total-most, total-some, total-more, total-one}
use Rattle.rows.specs.Table.{Table, row_count, target, in_use}
use Rattle.index.specs.Arcs.{arcs_from, arcs_of, arcs_below, arcs_to, Adds}

-- nothing written adds nothing, one write adds one at one row, and one list of writes behind another adds what both add
pub adds_none : {more : ℕ → ℕ} {p : List ℕ} → ((s : ℕ) → 0 < s → more s ≡ 0) → Adds more p p
adds_none none = record { long = refl; adds = λ s h. omega (arith, none s h) }

pub adds_one : (p : List ℕ) (n : ℕ) → n < length p → Adds (λ s. flag (eqb n s)) p (set p n (get_or p n 0 + 1))
adds_one p n inside =
    record {
      long = length-set p n (get_or p n 0 + 1);
      adds = λ s h.
          elim (ℕ_discrete s n) [
            | yes e ↦ rw (e, eq-eqb n n refl, get_or-set_same p n (get_or p n 0 + 1) 0 inside)
            | no e ↦ rw (ne_eqb n s (λ d. e (sym d)), get_or-set_other p n s (get_or p n 0 + 1) 0 e) (omega arith)
          ];
    }

pub adds-both : {first second both : ℕ → ℕ} {p q r : List ℕ}
    → Adds first p q → Adds second q r → ((s : ℕ) → 0 < s → both s ≡ first s + second s) → Adds both p r
adds-both one two same =
    record { long = two.long ∙ one.long; adds = λ s h. omega (arith, two.adds s h, one.adds s h, same s h) }

module _ (t : Table) (r : ℕ) where
  pub arcs-most : (x s : ℕ) → arcs_from t r x s ≤ x
  arcs-most x s = omega (arith, total-most (λ y. flag (eqb (target t r y) s)) 1 x (λ y. flag-le (eqb (target t r y) s)))

  pub arcs-none : (s : ℕ) → arcs_from t r 0 s ≡ 0
  unfolding total
  arcs-none s = refl

  -- one letter more
  pub arcs-more : (x s : ℕ) → arcs_from t r (suc x) s ≡ arcs_from t r x s + flag (eqb (target t r x) s)
  unfolding total
  arcs-more x s = refl

  pub arcs-zero : (x s : ℕ) → 0 < s → target t r x ≡ 0 → arcs_from t r (suc x) s ≡ arcs_from t r x s
  arcs-zero x s some none = arcs-more x s ∙ rw (none, ne_eqb 0 s (λ e. omega arith)) (omega arith)

  -- fewer letters give no more
  pub arcs-fewer : (x s : ℕ) → x ≤ letters → arcs_from t r x s ≤ arcs_from t r letters s
  arcs-fewer x s h = total-more (λ y. flag (eqb (target t r y) s)) x letters h

  -- an arc is counted, and what is counted is an arc
  pub arc-counted : (x s : ℕ) → x < letters → target t r x ≡ s → 0 < arcs_from t r letters s
  arc-counted x s h e =
      omega (arith, total-one (λ y. flag (eqb (target t r y) s)) letters x h, one)
    where
      one : flag (eqb (target t r x) s) ≡ 1
      one = rw (eq-eqb (target t r x) s e)

  pub counted-arc : (s : ℕ) → 0 < arcs_from t r letters s → (x : ℕ) × (x < letters) × (target t r x ≡ s)
  counted-arc s h =
      let (x, below, some) = total-some (λ y. flag (eqb (target t r y) s)) letters h in
      (x, below, same x (eqb (target t r x) s) refl some)
    where
      same : (x : ℕ) (b : Bool) → eqb (target t r x) s ≡ b → 0 < flag b → target t r x ≡ s
      same x true e some = eqb-true (target t r x) s e
      same x false e some = absurd (omega arith)

  of-most : (s : ℕ) → arcs_of t r s ≤ letters
  of-most s = go (in_use t r)
    where
      go : (b : Bool) → cond b (arcs_from t r letters s) 0 ≤ letters
      go true = arcs-most letters s
      go false = omega arith

module _ (t : Table) where
  pub below-most : (n s : ℕ) → arcs_below t n s ≤ n * letters
  below-most n s = total-most (λ r. arcs_of t r s) letters n (λ r. of-most t r s)

  pub below_more : (n s : ℕ) → arcs_below t (suc n) s ≡ arcs_below t n s + arcs_of t n s
  unfolding total
  below_more n s = refl

  -- an arc of a row in use is counted, and what is counted is one
  pub row-counted : (n r s : ℕ) → r < n → 0 < arcs_of t r s → 0 < arcs_below t n s
  row-counted n r s h some = omega (arith, total-one (λ q. arcs_of t q s) n r h)

  pub counted-row : (n s : ℕ) → 0 < arcs_below t n s → (r : ℕ) × (r < n) × (0 < arcs_of t r s)
  counted-row n s h = total-some (λ r. arcs_of t r s) n h

-- row r is in use in u and not in t, and the other rows are the same: its arcs are all that u has more
module _ (t u : Table) (r : ℕ) (rows : row_count u ≡ row_count t) (inside : r < row_count t) (free : in_use t r ≡ false) (taken : in_use u r ≡ true)
    (same-use : (q : ℕ) → (q ≡ r → ⊥) → in_use u q ≡ in_use t q)
    (same_target : (q x : ℕ) → (q ≡ r → ⊥) → x < letters → target u q x ≡ target t q x) where
  same_of : (s q : ℕ) → (q ≡ r → ⊥) → arcs_of u q s ≡ arcs_of t q s
  same_of s q other =
      let targets = total-agree letters (λ y. flag (eqb (target u q y) s)) (λ y. flag (eqb (target t q y) s)) (λ x h. rw (same_target q x other h)) in
      rw (same-use q other, targets)

  pub one-row-more : (s : ℕ) → arcs_to u s ≡ arcs_to t s + arcs_from u r letters s
  one-row-more s =
      let now : arcs_of u r s ≡ arcs_from u r letters s = rw taken in
      let before : arcs_of t r s ≡ 0 = rw free in
      let long : arcs_to u s ≡ arcs_below u (row_count t) s = ap (λ (n : ℕ). arcs_below u n s) rows in
      omega (arith, total-but-one (row_count t) r (λ q. arcs_of u q s) (λ q. arcs_of t q s) inside (λ q other. same_of s q other))
