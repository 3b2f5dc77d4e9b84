-- What is said of the numbers below n, and what they give. Assumes nothing.
use Rattle.std.specs.Prelude.{ℕ, zero, suc, ◌+◌, max, Bool, false, cond, ◌||◌, List, [], ◌∷◌, ◌++◌}

-- the test passes at some of them
unfoldable pub some_below : ℕ → (ℕ → Bool) → Bool
some_below zero test = false
some_below (suc n) test = some_below n test || test n

-- the greatest of the numbers that they give; 0 where there is none
unfoldable pub greatest : ℕ → (ℕ → ℕ) → ℕ
greatest zero given = 0
greatest (suc n) given = max (greatest n given) (given n)

-- the sum of the numbers that they give
unfoldable pub total : ℕ → (ℕ → ℕ) → ℕ
total zero given = 0
total (suc n) given = total n given + given n

-- what they give, rising, one behind the other
unfoldable pub over : {A : Type 0} → ℕ → (ℕ → List A) → List A
over zero given = []
over (suc n) given = over n given ++ given n

-- one thing of each
abbrev pub each : {A : Type 0} → ℕ → (ℕ → A) → List A
each n given = over n (λ i. given i ∷ [])

-- those that pass the test
abbrev pub those : ℕ → (ℕ → Bool) → List ℕ
those n test = over n (λ i. cond (test i) (i ∷ []) [])
