-- The lines of the words from a row, behind the letters walked to it. Assumes nothing.
use Rattle.std.specs.Prelude.{ℕ, Bool, cond, List, [], ◌∷◌, ◌++◌}
use Rattle.letters.specs.Letters.{line_end}
use Rattle.letters.specs.Lists.{line}
use Rattle.sets.specs.Sets.{Words}

-- the lines of the words, each behind the same bytes
unfoldable pub lines_behind : List ℕ → Words → List ℕ
lines_behind bytes [] = []
lines_behind bytes (w ∷ l) = (bytes ++ line w) ++ lines_behind bytes l

-- the line of these bytes alone, where a name ends behind them
abbrev pub line_here : Bool → List ℕ → List ℕ
line_here here bytes = cond here (bytes ++ line_end ∷ []) []
