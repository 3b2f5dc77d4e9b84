-- What is left of a set after some letters, all the sets that are left, and how many states they need. Assumes nothing.
use Rattle.std.specs.Prelude.{ℕ, zero, suc, max, Bool, true, false, not, cond, ◌&&◌, List, [], ◌∷◌, ◌++◌, eqb, length}
use Rattle.letters.specs.Letters.{letters}
use Rattle.letters.specs.Words.{Word, same}
use Rattle.sets.specs.Below.{over}
use Rattle.sets.specs.Sets.{Words, keep}

-- the words of the list that begin with the letter, without it
unfoldable pub after : ℕ → Words → Words
after x [] = []
after x ([] ∷ ws) = after x ws
after x ((y ∷ w) ∷ ws) = cond (eqb x y) (w ∷ after x ws) (after x ws)

-- what is left after all letters of a word
abbrev pub residual : Word → Words → Words
residual [] l = l
residual (x ∷ w) l = residual w (after x l)

-- the set and all that is left of it after some letters, depth first, letters rising; no empty one. The depth is one more than the letters of
-- the longest word.
unfoldable pub residuals : ℕ → Words → List Words
residuals zero l = []
residuals (suc depth) [] = []
residuals (suc depth) (w ∷ ws) = (w ∷ ws) ∷ over letters (λ x. residuals depth (after x (w ∷ ws)))

-- the letters of the longest word
unfoldable pub longest_word : Words → ℕ
longest_word [] = 0
longest_word (w ∷ ws) = max (length w) (longest_word ws)

-- list after list
unfoldable pub all_residuals : List Words → List Words
all_residuals [] = []
all_residuals (l ∷ ls) = residuals (suc (longest_word l)) l ++ all_residuals ls

-- are two lists the same, word by word?
unfoldable pub alike : Words → Words → Bool
alike [] [] = true
alike [] (w ∷ l) = false
alike (v ∷ k) [] = false
alike (v ∷ k) (w ∷ l) = same v w && alike k l

-- each set once, as first met
unfoldable pub distinct : List Words → List Words
distinct [] = []
distinct (k ∷ ks) = k ∷ keep (λ l. not (alike l k)) (distinct ks)

-- the different sets that are left, in the order in which they are first met
unfoldable pub states : List Words → List Words
states ls = distinct (all_residuals ls)

-- the place of a set among others; past the end where it is not there
unfoldable pub place_in : Words → List Words → ℕ
place_in k [] = 0
place_in k (l ∷ ls) = cond (alike k l) 0 (suc (place_in k ls))

-- how many states the lists need
unfoldable pub need : List Words → ℕ
need ls = length (states ls)
