-- Each call: what refuses it, in the order in which it is tested, and what it answers when done. Assumes nothing.
use Rattle.std.specs.Prelude.{ℕ, Bool, not, cond, ◌&&◌, ◌||◌, List, [], ◌∷◌, eqb, length}
use Rattle.std.specs.Bool.{beq}
use Rattle.letters.specs.Letters.{letters}
use Rattle.letters.specs.Words.{Word, word_of, bytes_of}
use Rattle.letters.specs.Lists.{names_of, lines}
use Rattle.letters.specs.LetterSet.{flag, sum_of, count_of}
use Rattle.sets.specs.Sets.{Words, member, insert, delete, both, common, without}
use Rattle.sets.specs.Residuals.{need}
use Rattle.model.specs.Lists.{list_of, replace, empty_lists, has_names, rank_of, nth_of, may_follow}
use Rattle.model.specs.Prefixes.{how_far}
use Rattle.model.specs.Call.{Book, Outcome}
use Rattle.model.specs.Refusals.{Refusal, bad_length, bad_mission, bad_operation, no_name, no_prefix, no_list, no_two_lists, over_long, short_buffer, short_for}
use Rattle.model.specs.Refusals.{not_sound, not_empty, too_many, not_under, no_room}

-- a call's refusals, and its outcome when none applies
pub record Rule : Type 0 where
  pub refusals : List Refusal
  pub done : Outcome

-- a call that answers a value and leaves these lists
abbrev pub leaves : List Words → ℕ → Outcome
leaves after value = record { number = 0; value = value; second = 0; written = []; lists = after }

-- a call that only answers a value
abbrev pub answers : Book → ℕ → Outcome
answers b value = leaves b.lists value

-- a call that writes bytes to the front of its buffer, and answers a value
abbrev pub puts : Book → List ℕ → ℕ → Outcome
puts b bytes value = record { number = 0; value = value; second = 0; written = bytes; lists = b.lists }

-- a call that only answers two values
abbrev pub answers_both : Book → ℕ → ℕ → Outcome
answers_both b value second = record { number = 0; value = value; second = second; written = []; lists = b.lists }

-- "empty: make an empty book of the slice." "check and empty 0; empty sets every number to 0"
abbrev pub empty_rule : Book → Rule
empty_rule b = record { refusals = bad_length b ∷ []; done = leaves empty_lists 0 }

-- "check: is it sound?"
abbrev pub check_rule : Book → Rule
check_rule b = record { refusals = bad_length b ∷ not_sound b ∷ []; done = answers b 0 }

-- "ask: is a name on a mission's list?" "ask 1 or 0." 02, wish 1: "ask shall also report the arcs it followed."
abbrev pub ask_rule : Book → ℕ → List ℕ → Rule
ask_rule b m name =
    let w = word_of name in
    let l = list_of b.lists m in
    record {
      refusals = bad_length b ∷ bad_mission m ∷ no_name name ∷ [];
      done = answers_both b (flag (member w l)) (how_far w l);
    }

-- "next answers the sum of 2 to the power x over the letters x that may follow. The number of letters that may follow is also answered."
abbrev pub next_rule : Book → ℕ → List ℕ → Rule
next_rule b m prefix =
    let follows = may_follow (word_of prefix) (list_of b.lists m) in
    record {
      refusals = bad_length b ∷ bad_mission m ∷ no_prefix prefix ∷ [];
      done = answers_both b (sum_of letters follows) (count_of letters follows);
    }

-- "add and remove one name": the list with the name on it, or off it
abbrev pub with_name : Bool → Word → Words → Words
with_name on w l = cond on (insert w l) (delete w l)

-- "add and remove 1 if the list changed, else 0": it changes if the name is not yet as wanted
abbrev pub set_rule : Bool → Book → ℕ → List ℕ → Rule
set_rule on b m name =
    let l = list_of b.lists m in
    let after = replace b.lists m (with_name on (word_of name) l) in
    record {
      refusals = bad_length b ∷ bad_mission m ∷ no_name name ∷ not_sound b ∷ no_room b after ∷ [];
      done = leaves after (flag (not (beq (member (word_of name) l) on)));
    }

-- "clear one list": "clear 1 if there were names, else 0"
abbrev pub clear_rule : Book → ℕ → Rule
clear_rule b m =
    record {
      refusals = bad_length b ∷ bad_mission m ∷ not_sound b ∷ [];
      done = leaves (replace b.lists m []) (flag (has_names (list_of b.lists m)));
    }

-- "load a rising list of names into an empty list": "load the number of names"
abbrev pub load_rule : Book → ℕ → List ℕ → Rule
load_rule b m bytes =
    let after = replace b.lists m (names_of bytes) in
    record {
      refusals = bad_length b ∷ bad_mission m ∷ no_list bytes ∷ not_sound b ∷ not_empty b m ∷ no_room b after ∷ [];
      done = leaves after (length (names_of bytes));
    }

-- 02, wish 2: "Planning and flight dynamics each send a rising list for the same mission. A call shall load both into an empty list as one."
-- "The value is the number of different names." "Demand 2 reads the result as the union"
abbrev pub load_two_rule : Book → ℕ → List ℕ → List ℕ → Rule
load_two_rule b m first second =
    let names = both (names_of first) (names_of second) in
    let after = replace b.lists m names in
    record {
      refusals = bad_length b ∷ bad_mission m ∷ no_two_lists first second ∷ not_sound b ∷ not_empty b m ∷ no_room b after ∷ [];
      done = leaves after (length names);
    }

-- "1 both together, 2 common names, 3 names of a that b has not"
abbrev pub combined : ℕ → Words → Words → Words
combined op k l = cond (eqb op 1) (both k l) (cond (eqb op 2) (common k l) (without k l))

-- whether a word is in the combined list, by whether it is in each
abbrev pub chosen : ℕ → Bool → Bool → Bool
chosen op a b = cond (eqb op 1) (a || b) (cond (eqb op 2) (a && b) (a && not b))

-- "combine the lists of missions a and b into the empty list of mission c": "combine 1 if the result has a name, else 0"
abbrev pub combine_rule : Book → ℕ → ℕ → ℕ → ℕ → Rule
combine_rule book op a b c =
    let result = combined op (list_of book.lists a) (list_of book.lists b) in
    let after = replace book.lists c result in
    record {
      refusals =
          bad_length book
          ∷ bad_mission a
          ∷ bad_mission b
          ∷ bad_mission c
          ∷ bad_operation op
          ∷ not_sound book
          ∷ not_empty book c
          ∷ no_room book after
          ∷ [];
      done = leaves after (flag (has_names result));
    }

-- "count the names"
abbrev pub count_rule : Book → ℕ → Rule
count_rule b m =
    record {
      refusals = bad_length b ∷ bad_mission m ∷ not_sound b ∷ too_many b m ∷ [];
      done = answers b (length (list_of b.lists m));
    }

-- "rank: how many names of the list stand before a given name"
abbrev pub rank_rule : Book → ℕ → List ℕ → Rule
rank_rule b m name =
    record {
      refusals = bad_length b ∷ bad_mission m ∷ no_name name ∷ not_sound b ∷ too_many b m ∷ [];
      done = answers b (rank_of (word_of name) (list_of b.lists m));
    }

-- "nth the length of the name, which stands at the front of the buffer; later bytes stay."
abbrev pub nth_rule : Book → ℕ → ℕ → ℕ → Rule
nth_rule b m n size =
    let w = nth_of n (list_of b.lists m) in
    record {
      refusals = bad_length b ∷ bad_mission m ∷ short_buffer size ∷ not_sound b ∷ too_many b m ∷ not_under b m n ∷ [];
      done = puts b (bytes_of w) (length w);
    }

-- 02, wish 2: "A second call writes a mission's list to the front of a lent buffer as bytes that load takes back; its value is the number of
-- bytes." "writing, 1, 2, 7, then 5 if over 65,535 bytes are needed, 6 if the buffer is short"
abbrev pub write_rule : Book → ℕ → ℕ → Rule
write_rule b m size =
    let bytes = lines (list_of b.lists m) in
    record {
      refusals = bad_length b ∷ bad_mission m ∷ not_sound b ∷ over_long bytes ∷ short_for bytes size ∷ [];
      done = puts b bytes (length bytes);
    }

-- "used: rows in use", which is the fewest states of the sixteen lists (demand 3)
abbrev pub used_rule : Book → Rule
used_rule b = record { refusals = bad_length b ∷ not_sound b ∷ []; done = answers b (need b.lists) }
