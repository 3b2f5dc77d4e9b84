-- A set of letters as a 64-bit number: bit x is set where letter x is in the set. Assumes nothing.
use Rattle.std.specs.Prelude.{ℕ, zero, suc, ◌+◌, ◌*◌, ◌^◌, Bool, cond}

-- 1 where the test holds, else 0
abbrev pub flag : Bool → ℕ
flag b = cond b 1 0

-- "the sum of 2 to the power x over the letters x that may follow": over the x below n that pass the test
unfoldable pub sum_of : ℕ → (ℕ → Bool) → ℕ
sum_of zero test = 0
sum_of (suc n) test = flag (test n) * 2 ^ n + sum_of n test

-- "The number of letters that may follow": how many x below n pass the test
unfoldable pub count_of : ℕ → (ℕ → Bool) → ℕ
count_of zero test = 0
count_of (suc n) test = flag (test n) + count_of n test
