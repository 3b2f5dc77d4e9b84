-- The digits of a number: those before the last one are the digits of its tenth. So a number under a power of ten has no more digits than the
-- power says, and one of 64 bits at most twenty. How many digits the definition allows does not matter where that is above the number.
-- Assumes nothing.
use Prim.Native.Nat.{ℕ, zero, suc, ◌*◌, ◌/◌, ◌%◌, ◌^◌, ◌≤◌, ◌<◌}
use native.Mathlib.Nat.{pow-succ'}
use native.Mathlib.Omega.{arith}
use native.Mathlib.Decide.{dec_lt}
use mathlib.Core.Path.{◌≡◌, ◌∙◌, ap}
use mathlib.Core.List.{[], ◌∷◌, ◌++◌}
use borrow.Author.Tests.{lt-ltb, le-ltb}
use lib.ListN.{length, length-append}
use Rattle.printing.specs.Decimal.{digit, digits_in, decimal}
use Rattle.printing.specs.Printed.{field}

digits-small : (most n : ℕ) → n < 10 → digits_in (suc most) n ≡ digit n ∷ []
unfolding digits_in
digits-small most n h = rw (lt-ltb n 10 h)

digits_step : (most n : ℕ) → 10 ≤ n → digits_in (suc most) n ≡ digits_in most (n / 10) ++ digit (n % 10) ∷ []
unfolding digits_in
digits_step most n h = rw (le-ltb n 10 h)

digits-enough : (most other n : ℕ) → n < most → n < other → digits_in most n ≡ digits_in other n
digits-enough zero other n h k = absurd (omega arith)
digits-enough (suc most) zero n h k = absurd (omega arith)
digits-enough (suc most) (suc other) n h k =
    elim (dec_lt n 10) [
      | yes small ↦ rw (digits-small most n small, digits-small other n small)
      | no large ↦
          let ten : 10 ≤ n = omega arith in
          rw (digits_step most n ten, digits_step other n ten, digits-enough most other (n / 10) (omega arith) (omega arith))
    ]

pub decimal-small : (n : ℕ) → n < 10 → decimal n ≡ digit n ∷ []
unfolding decimal
decimal-small n h = digits-small n n h

pub decimal_step : (n : ℕ) → 10 ≤ n → decimal n ≡ decimal (n / 10) ++ digit (n % 10) ∷ []
unfolding decimal
decimal_step n h = digits_step n n h ∙ ap (λ ds. ds ++ digit (n % 10) ∷ []) (digits-enough n (suc (n / 10)) (n / 10) (omega arith) (omega arith))

pub length-decimal-small : (n : ℕ) → n < 10 → length (decimal n) ≡ 1
length-decimal-small n h = rw (decimal-small n h)

pub length-decimal-step : (n : ℕ) → 10 ≤ n → length (decimal n) ≡ suc (length (decimal (n / 10)))
length-decimal-step n h = rw (decimal_step n h) (simp length-append (omega arith))

-- a number under the power k + 1 of ten has at most k + 1 digits
decimal-within : (k n : ℕ) → n < 10 * 10 ^ k → length (decimal n) ≤ suc k
decimal-within zero n h = omega (arith, length-decimal-small n (omega arith))
decimal-within (suc k) n h =
    elim (dec_lt n 10) [
      | yes small ↦ omega (arith, length-decimal-small n small)
      | no large ↦ omega (arith, length-decimal-step n (omega arith), decimal-within k (n / 10) (omega (arith, pow-succ' 10 k)))
    ]

pub decimal-short : (n : ℕ) → n < 2 ^ 64 → length (decimal n) ≤ 20
decimal-short n h = decimal-within 19 n (omega arith)

pub field-short : (n : ℕ) → n < 2 ^ 64 → length (field n) ≤ 21
field-short n h = omega (arith, decimal-short n h)
