-- How many words of a row stand before those that begin with a letter. Assumes nothing.
use Rattle.std.specs.Prelude.{ℕ, ◌+◌, length}
use Rattle.letters.specs.LetterSet.{flag}
use Rattle.sets.specs.Below.{total}
use Rattle.rows.specs.Table.{Table, target, ends}
use Rattle.rows.specs.Words.{words}

-- a number of the row's own, and as many as the targets of the lower letters are given
abbrev pub sum_by : ℕ → (ℕ → ℕ) → Table → ℕ → ℕ → ℕ
sum_by own given t r x = own + total x (λ y. given (target t r y))

-- the empty word, where a name may end at the row, and as many as the targets of the lower letters are given
abbrev pub ahead_by : (ℕ → ℕ) → Table → ℕ → ℕ → ℕ
ahead_by given t r x = sum_by (flag (ends t r)) given t r x

-- how many words of the row stand before those that begin with letter x
abbrev pub ahead : Table → ℕ → ℕ → ℕ
ahead t r x = ahead_by (λ n. length (words t n)) t r x
