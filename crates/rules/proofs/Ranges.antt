-- A chain over a range of numbers, said as the rules say it: `all` over the state rows tests every row below their number, since row 0, the head,
-- passes as no state row; over the missions `all` tests each of them, and `any` some. Assumes nothing.
use Prim.Native.Nat.{ℕ, zero, suc, ◌+◌, ◌-◌, ◌≤◌, ◌<◌}
use mathlib.Core.Path.{◌≡◌, refl, sym, ◌∙◌}
use mathlib.Core.Bool.{Bool, true, false, not, ◌&&◌, ◌||◌, and_assoc, or_assoc, and-true, or-false}
use mathlib.Core.List.{List}
use native.Mathlib.Numerals.{add-one}
use native.Mathlib.Omega.{arith}
use denote.Param.Members.{Mut}
use Rattle.std.specs.Fn.{Called}
use Rattle.std.specs.Iterator.{YieldsThen}
use Rattle.std.specs.List.{list_all, list_any, range_with_len, FoldsTo}
use Rattle.std.specs.Option.{MatchOption}
use Rattle.std.specs.declared.ops.Range.{Range}
use Rattle.std.specs.declared.option.Option.{Option}
use Rattle.std.proofs.iter.Yields.{nat_range_steps}
use Rattle.std.proofs.lemmas.Iterator.{YieldsList-from_range}
use Rattle.std.proofs.lemmas.Iterator.Search.{all_from_yields_List, any_from_yields_List}
use Rattle.letters.specs.Below.{all_below}
use Rattle.sets.specs.Below.{some_below}
use Rattle.rows.specs.Table.{Table, row_count, is_row}
use Rattle.rows.specs.Rules.{every_row, if_used, every_used}
use Rattle.rows.proofs.Facts.{inside-row}

module _ (asked test : ℕ → Bool) where
  all-range : (a n k : ℕ) → a + n ≡ k → ((x : ℕ) → a ≤ x → x < k → asked x ≡ test x)
      → (all_below a test && list_all asked (range_with_len a n)) ≡ all_below k test
  unfolding all_below
  all-range a zero k e same =
      let all : a ≡ k = omega arith in
      and-true (all_below a test) ∙ rw all
  all-range a (suc n) k e same =
      rw (add-one, same a (omega arith) (omega arith))
      (sym (and_assoc (all_below a test) (test a) _) ∙ all-range (suc a) n k (omega arith) (λ x low below. same x (omega arith) below))

  all-rows : (k n : ℕ) → k - 1 ≡ n → test 0 ≡ true → ((x : ℕ) → 0 < x → x < k → asked x ≡ test x)
      → list_all asked (range_with_len 1 n) ≡ all_below k test
  unfolding all_below
  all-rows zero n e head same =
      let none : n ≡ 0 = omega arith in
      rw none
  all-rows (suc k) n e head same = rw head at (all-range 1 n (suc k) (omega arith) (λ x low below. same x (omega arith) below))

module _ (test : ℕ → Bool) where
  some-range : (a n k : ℕ) → a + n ≡ k → (some_below a test || list_any test (range_with_len a n)) ≡ some_below k test
  unfolding some_below
  some-range a zero k e =
      let all : a ≡ k = omega arith in
      or-false (some_below a test) ∙ rw all
  some-range a (suc n) k e = sym (or_assoc (some_below a test) (test a) _) ∙ rw add-one (some-range (suc a) n k (omega arith))

-- the closure is unchanged by a call, and computes the test
abbrev pub Gives : {F : Type 0} → Mut F (ℕ × Unit {0}) Bool → F → (ℕ → Bool) → Type 0
Gives {F} g f test = (x : ℕ) (b : Bool) (q : F) → Called g f (x, tt) b q → (q ≡ f) × (b ≡ test x)

-- `all` and `any` over the numbers from a on that are below k, as their contracts say it
abbrev pub All : {F : Type 0} → Mut F (ℕ × Unit {0}) Bool → Range ℕ → F → Bool → ℕ → ℕ → Type 0
All {F} g u f r a k =
    (xs : List ℕ) × (o : Option ℕ) × (j : F) × YieldsThen nat_range_steps (record { start = a; end = k }) xs o u
    × FoldsTo (λ p x q. Called g p (x, tt) true q) f xs j × MatchOption o (r ≡ true) (λ x. (r ≡ false) × ((h : F) × Called g j (x, tt) false h))

abbrev pub Any : {F : Type 0} → Mut F (ℕ × Unit {0}) Bool → Range ℕ → F → Bool → ℕ → ℕ → Type 0
Any {F} g u f r a k =
    (xs : List ℕ) × (o : Option ℕ) × (j : F) × YieldsThen nat_range_steps (record { start = a; end = k }) xs o u
    × FoldsTo (λ p x q. Called g p (x, tt) false q) f xs j × MatchOption o (r ≡ false) (λ x. (r ≡ true) × ((h : F) × Called g j (x, tt) true h))

module _ {F : Type 0} {g : Mut F (ℕ × Unit {0}) Bool} {k : ℕ} (u : Range ℕ) (f : F) (r : Bool) where
  over-rows : (asked test : ℕ → Bool) → All g u f r 1 k → Gives g f asked → test 0 ≡ true → ((x : ℕ) → 0 < x → x < k → asked x ≡ test x)
      → r ≡ all_below k test
  over-rows asked test ran called head same =
      all_from_yields_List asked u f r ran (YieldsList-from_range 1 k (k - 1) refl refl) called ∙ all-rows asked test k (k - 1) refl head same

  pub every-row : (t : Table) (ok : ℕ → Bool) → k ≡ row_count t → All g u f r 1 k → Gives g f ok → r ≡ every_row t ok
  every-row t ok rows ran called =
      over-rows ok (λ s. not (is_row t s) || ok s) ran called refl (λ x some below. rw (inside-row t x some (omega arith))) ∙ rw rows

  pub every-used : (t : Table) (ok : ℕ → Bool) → k ≡ row_count t → All g u f r 1 k → Gives g f (λ s. if_used t s (ok s)) → r ≡ every_used t ok
  every-used t ok rows ran called = over-rows _ (λ s. if_used t s (ok s)) ran called refl (λ x some below. refl) ∙ rw rows

  pub every-mission : (test : ℕ → Bool) → All g u f r 0 k → Gives g f test → r ≡ all_below k test
  unfolding all_below
  every-mission test ran called =
      all_from_yields_List test u f r ran (YieldsList-from_range 0 k k refl (omega arith)) called ∙ all-range test test 0 k k (omega arith) (λ x low below. refl)

  pub some-mission : (test : ℕ → Bool) → Any g u f r 0 k → Gives g f test → r ≡ some_below k test
  unfolding some_below
  some-mission test ran called =
      any_from_yields_List test u f r ran (YieldsList-from_range 0 k k refl (omega arith)) called ∙ some-range test 0 k k (omega arith)
