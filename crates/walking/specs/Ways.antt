-- How far the walk gets with some bytes, whatever they are: it stops at a byte that is no letter, too. Assumes nothing.
use Rattle.std.specs.Prelude.{ℕ, Bool, cond, ◌&&◌, List, [], ◌∷◌, Option, Some, None, ltb, length}
use Rattle.letters.specs.Letters.{letters, letter}
use Rattle.letters.specs.Words.{word_of}
use Rattle.letters.specs.Names.{spelled}
use Rattle.rows.specs.Table.{Table, is_row, start, target}
use Rattle.rows.specs.Walk.{walk_from, followed}
use Rattle.walking.specs.declared.walk.Way.{Way}
use Rattle.walking.specs.declared.walk.Walked.{Walked}

-- where a byte leads from a row; a byte that is no letter leads nowhere
abbrev pub leads_to : Table → ℕ → ℕ → ℕ
leads_to t r b = cond (ltb (letter b) letters) (target t r (letter b)) 0

-- from a row: the row where the walk ends, or 0 where it stops, and how many bytes are left there
unfoldable pub way : Table → List ℕ → ℕ → Way
way t [] r = record { row = r; left = 0 }
way t (b ∷ bytes) r = cond (is_row t (leads_to t r b)) (way t bytes (leads_to t r b)) (record { row = 0; left = length (b ∷ bytes) })

-- from any number
abbrev pub way_from : Table → List ℕ → ℕ → Way
way_from t bytes n = cond (is_row t n) (way t bytes n) (record { row = 0; left = length bytes })

-- a mission's walk of the bytes' word, where they are one: they are as long as they may be, and all are letters
abbrev pub walked : Table → ℕ → List ℕ → Bool → Option Walked
walked t m bytes long =
    let w = word_of bytes in
    cond (long && spelled bytes) (Some (record { row = (walk_from t w (start t m)).row; followed = followed t w (start t m) })) None
