-- 01, "Refusal numbers": each number with its test, in the words of the table. Assumes nothing.
use Rattle.std.specs.Prelude.{ℕ, Bool, not, cond, ◌&&◌, List, [], ◌∷◌, leb, ltb, length}
use Rattle.letters.specs.Names.{longest, is_name, is_prefix}
use Rattle.letters.specs.Lists.{longest_list, is_list}
use Rattle.sets.specs.Sets.{Words}
use Rattle.sets.specs.Residuals.{need}
use Rattle.sets.specs.Cut.{most_names}
use Rattle.model.specs.Lists.{last_mission, list_of, has_names}
use Rattle.model.specs.Call.{Book}

-- a refusal number, and whether it applies
pub record Refusal : Type 0 where
  pub number : ℕ
  pub applies : Bool

-- "Of those that apply to a call, the lowest is given, and none when none applies." The refusals of 01's calls stand in rising order, so the
-- first that applies is the lowest; those of a wish stand as the wish writes them, and the first is given also where the numbers do not rise.
abbrev pub given : List Refusal → ℕ
given [] = 0
given (r ∷ rs) = cond r.applies r.number (given rs)

-- 1: "slice length not 40k with k from 27 to 1,026"
abbrev pub bad_length : Book → Refusal
bad_length b = record { number = 1; applies = not b.length_ok }

-- 2: "a mission number over 15"
abbrev pub bad_mission : ℕ → Refusal
bad_mission m = record { number = 2; applies = ltb last_mission m }

-- 3: "operation not 1, 2 or 3"
abbrev pub is_operation : ℕ → Bool
is_operation op = leb 1 op && leb op 3

abbrev pub bad_operation : ℕ → Refusal
bad_operation op = record { number = 3; applies = not (is_operation op) }

-- 4: "no name (next: no prefix) by the rules above"
abbrev pub no_name : List ℕ → Refusal
no_name bytes = record { number = 4; applies = not (is_name bytes) }

abbrev pub no_prefix : List ℕ → Refusal
no_prefix bytes = record { number = 4; applies = not (is_prefix bytes) }

-- 5: "no list by the rules above"
abbrev pub no_list : List ℕ → Refusal
no_list bytes = record { number = 5; applies = not (is_list bytes) }

-- 02, wish 2: "5 if either is no list", and "5 if over 65,535 bytes are needed"
abbrev pub no_two_lists : List ℕ → List ℕ → Refusal
no_two_lists first second = record { number = 5; applies = not (is_list first && is_list second) }

abbrev pub over_long : List ℕ → Refusal
over_long bytes = record { number = 5; applies = ltb longest_list (length bytes) }

-- 6: "answer buffer under 24 bytes"
abbrev pub short_buffer : ℕ → Refusal
short_buffer size = record { number = 6; applies = ltb size longest }

-- 02, wish 2: "6 if the buffer is short" for these bytes
abbrev pub short_for : List ℕ → ℕ → Refusal
short_for bytes size = record { number = 6; applies = ltb size (length bytes) }

-- 7: "book not sound"
abbrev pub not_sound : Book → Refusal
not_sound b = record { number = 7; applies = not b.sound }

-- 8: "receiving list not empty"
abbrev pub not_empty : Book → ℕ → Refusal
not_empty b m = record { number = 8; applies = has_names (list_of b.lists m) }

-- 9: "the list has over 60,000 names"
abbrev pub too_many : Book → ℕ → Refusal
too_many b m = record { number = 9; applies = ltb most_names (length (list_of b.lists m)) }

-- 10: "n is not under the count"
abbrev pub not_under : Book → ℕ → ℕ → Refusal
not_under b m n = record { number = 10; applies = leb (length (list_of b.lists m)) n }

-- 11: "the sixteen lists after the change need more states than room"
abbrev pub no_room : Book → List Words → Refusal
no_room b after = record { number = 11; applies = ltb b.room (need after) }
