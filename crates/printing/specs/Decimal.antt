-- A number as it is printed. Assumes nothing.
use Rattle.std.specs.Prelude.{ℕ, zero, suc, ◌+◌, ◌/◌, ◌%◌, cond, List, [], ◌∷◌, ◌++◌, ltb}

-- the byte of a digit
abbrev pub digit : ℕ → ℕ
digit d = 0x30 + d

-- the digits of n, the highest first, where they are no more than so many
unfoldable pub digits_in : ℕ → ℕ → List ℕ
digits_in zero n = []
digits_in (suc most) n = cond (ltb n 10) (digit n ∷ []) (digits_in most (n / 10) ++ digit (n % 10) ∷ [])

-- the digits of n, with no 0 in front: a number has no more of them than it counts, or one
unfoldable pub decimal : ℕ → List ℕ
decimal n = digits_in (suc n) n
