-- 02, wish 1: "How far did the name get?" Assumes nothing.
use Rattle.std.specs.Prelude.{ℕ, suc, max, ◌≤◌, ◌<◌, ◌≡◌, true, cond, [], ◌∷◌, eqb, length, take}
use Rattle.letters.specs.Words.{Word}
use Rattle.sets.specs.Sets.{Words, member}

-- how many letters two words begin with alike
unfoldable pub shared : Word → Word → ℕ
shared [] v = 0
shared (x ∷ w) [] = 0
shared (x ∷ w) (y ∷ v) = cond (eqb x y) (suc (shared w v)) 0

-- the most that the word shares with a name on the list: "the length of the longest prefix of the given name that some name on the list begins
-- with, and 0 for an empty list"
unfoldable pub how_far : Word → Words → ℕ
how_far w [] = 0
how_far w (v ∷ l) = max (shared w v) (how_far w l)

-- some name on the list begins with the first n letters of the word
pub record Begun (w : Word) (l : Words) (n : ℕ) : Type 0 where
  pub name : Word
  pub listed : member name l ≡ true
  pub long : n ≤ length w
  pub alike : take n name ≡ take n w

-- the same sentence, said of a number: some name begins with that many letters of the word, and none with more
pub record LongestPrefix (w : Word) (l : Words) (n : ℕ) : Type 0 where
  pub begun : 0 < n → Begun w l n
  pub none_longer : (k : ℕ) → Begun w l k → k ≤ n
