-- The first step of a word in a table, whatever its numbers are: from what is no row the walk ends nowhere, and from a row it goes on from the
-- target of the first letter with the rest of the word, or stops there with the word if the target is no row. What ask says of the end of a walk,
-- and how many arcs it followed, follows. Assumes nothing.
use Prim.Native.Nat.{ℕ, suc, ◌≤◌}
use native.Mathlib.Omega.{arith}
use mathlib.Core.Path.{◌≡◌}
use mathlib.Core.Bool.{true, false, cond}
use mathlib.Core.List.{[], ◌∷◌}
use lib.ListN.{length}
use Rattle.letters.specs.Words.{Word}
use Rattle.letters.proofs.Tests.{by-test}
use Rattle.rows.specs.Table.{Table, is_row, target, ends}
use Rattle.rows.specs.Walk.{walk, walk_from, accepts, followed}

module _ (t : Table) (n : ℕ) where
  pub walk_none : is_row t n ≡ false → (w : Word) → walk_from t w n ≡ record { row = 0; left = w }
  unfolding walk_from
  walk_none e w = rw e

  pub walk-empty : is_row t n ≡ true → walk_from t [] n ≡ record { row = n; left = [] }
  unfolding walk_from walk
  walk-empty e = rw e

  pub walk-on : is_row t n ≡ true → (x : ℕ) (w : Word) → is_row t (target t n x) ≡ true → walk_from t (x ∷ w) n ≡ walk_from t w (target t n x)
  unfolding walk_from walk
  walk-on e x w on = rw (e, on)

  pub walk-stops : is_row t n ≡ true → (x : ℕ) (w : Word) → is_row t (target t n x) ≡ false → walk_from t (x ∷ w) n ≡ record { row = 0; left = x ∷ w }
  unfolding walk_from walk
  walk-stops e x w stops = rw (e, stops)

module _ (t : Table) (n : ℕ) where
  -- the row where it ends
  pub walk_step : is_row t n ≡ true → (x : ℕ) (w : Word) → (walk_from t (x ∷ w) n).row ≡ (walk_from t w (target t n x)).row
  walk_step e x w =
      by-test (is_row t (target t n x)) (λ on. rw (walk-on t n e x w on)) (λ stops. rw (walk-stops t n e x w stops, walk_none t _ stops w))

  pub none-accepted : is_row t n ≡ false → (w : Word) → accepts t w n ≡ false
  none-accepted e w = rw (walk_none t n e w)

  pub accepts-empty : accepts t [] n ≡ ends t n
  accepts-empty = by-test (is_row t n) (λ e. rw (walk-empty t n e)) (λ e. rw (walk_none t n e [], e))

  pub accepts-step : is_row t n ≡ true → (x : ℕ) (w : Word) → accepts t (x ∷ w) n ≡ accepts t w (target t n x)
  accepts-step e x w = rw (walk_step e x w)

-- the arcs that it followed
module _ (t : Table) where
  left-few : (w : Word) (n : ℕ) → length (walk_from t w n).left ≤ length w
  left-few [] n = by-test (is_row t n) (λ e. rw (walk-empty t n e) (omega arith)) (λ e. rw (walk_none t n e []) (omega arith))
  left-few (x ∷ w) n =
      by-test (is_row t n)
      (λ e.
      by-test (is_row t (target t n x)) (λ on. rw (walk-on t n e x w on) (omega (arith, left-few w (target t n x))))
      (λ stops. rw (walk-stops t n e x w stops) (omega arith)))
      (λ e. rw (walk_none t n e (x ∷ w)) (omega arith))

  pub followed-none : (n : ℕ) → is_row t n ≡ false → (w : Word) → followed t w n ≡ 0
  followed-none n e w = rw (walk_none t n e w) (omega arith)

  pub followed-step : (n : ℕ) → is_row t n ≡ true → (x : ℕ) (w : Word)
      → followed t (x ∷ w) n ≡ cond (is_row t (target t n x)) (suc (followed t w (target t n x))) 0
  followed-step n e x w =
      by-test (is_row t (target t n x)) (λ on. rw (walk-on t n e x w on, on) (omega (arith, left-few w (target t n x))))
      (λ stops. rw (walk-stops t n e x w stops, stops) (omega arith))
