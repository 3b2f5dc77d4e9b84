-- Numbers of names, cut above 60,000. Assumes nothing.
use Rattle.std.specs.Prelude.{ℕ, min, suc}

-- "the list has over 60,000 names" (refusal 9)
abbrev pub most_names : ℕ
most_names = 60000

-- a number of names, or 60,001 for any above 60,000
abbrev pub cut : ℕ → ℕ
cut n = min n (suc most_names)
