-- The words from a row, in rising order, and the sixteen lists. Assumes nothing.
use Rattle.std.specs.Prelude.{ℕ, zero, suc, cond, List, [], ◌∷◌, ◌++◌, map, eqb}
use Rattle.letters.specs.Letters.{letters}
use Rattle.letters.specs.Names.{longest}
use Rattle.sets.specs.Below.{over}
use Rattle.sets.specs.Sets.{Words}
use Rattle.rows.specs.Table.{Table, is_row, start, starts, mark, target}

-- the words, each with the letter before it
abbrev pub behind : ℕ → Words → Words
behind x l = map (λ w. x ∷ w) l

-- the empty word where the mark says that a name may end, and letter by letter what is given for it
abbrev pub fan : ℕ → (ℕ → Words) → Words
fan mark given = cond (eqb mark 2) ([] ∷ []) [] ++ over letters (λ x. behind x (given x))

-- from a row: by its mark, and by what its targets give
abbrev pub row_words : Table → ℕ → (ℕ → Words) → Words
row_words t r given = fan (mark t r) (λ x. given (target t r x))

-- of fewer than so many letters
unfoldable pub short_words : ℕ → Table → ℕ → Words
short_words zero t n = []
short_words (suc most) t n = cond (is_row t n) (row_words t n (λ s. short_words most t s)) []

-- of at most as many letters as the longest name; from the rows of a tidy table there are no others
abbrev pub words : Table → ℕ → Words
words t n = short_words (suc longest) t n

-- "A book holds sixteen lists of names for missions 0 to 15."
abbrev pub names : Table → ℕ → Words
names t m = words t (start t m)

abbrev pub lists : Table → List Words
lists t = map (λ n. words t n) (starts t)
