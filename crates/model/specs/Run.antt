-- One call on a book: its outcome. Assumes nothing.
use Rattle.std.specs.Prelude.{ℕ, zero, suc, Bool, true, false, []}
use Rattle.model.specs.Call.{Call, Book, Outcome}
use Rattle.model.specs.Call.Call.{empty, check, ask, next, add, remove, clear, load, load_two, combine, count, rank, nth, write, used}
use Rattle.model.specs.Refusals.{given}
use Rattle.model.specs.Rules.{Rule, empty_rule, check_rule, ask_rule, next_rule, set_rule, clear_rule, load_rule, load_two_rule, combine_rule, count_rule, rank_rule, nth_rule, write_rule, used_rule}

abbrev pub rule : Book → Call → Rule
rule b empty = empty_rule b
rule b check = check_rule b
rule b (ask m name) = ask_rule b m name
rule b (next m prefix) = next_rule b m prefix
rule b (add m name) = set_rule true b m name
rule b (remove m name) = set_rule false b m name
rule b (clear m) = clear_rule b m
rule b (load m bytes) = load_rule b m bytes
rule b (load_two m first second) = load_two_rule b m first second
rule b (combine op x y z) = combine_rule b op x y z
rule b (count m) = count_rule b m
rule b (rank m name) = rank_rule b m name
rule b (nth m n size) = nth_rule b m n size
rule b (write m size) = write_rule b m size
rule b used = used_rule b

-- do the call's refusals stand in rising order? Those of 01's calls do. A wish writes its own order, and write's falls once: "1, 2, 7, then 5"
abbrev pub in_rising_order : Call → Bool
in_rising_order (write m size) = false
in_rising_order empty = true
in_rising_order check = true
in_rising_order (ask m name) = true
in_rising_order (next m prefix) = true
in_rising_order (add m name) = true
in_rising_order (remove m name) = true
in_rising_order (clear m) = true
in_rising_order (load m bytes) = true
in_rising_order (load_two m first second) = true
in_rising_order (combine op x y z) = true
in_rising_order (count m) = true
in_rising_order (rank m name) = true
in_rising_order (nth m n size) = true
in_rising_order used = true

-- "A refusal has value 0 (next: both values 0) and changes no number of the table and no byte of an answer buffer."
abbrev pub refused : ℕ → Book → Outcome
refused number b = record { number = number; value = 0; second = 0; written = []; lists = b.lists }

-- 0, "done": the call's own outcome; any other number refuses it
abbrev pub outcome : Book → ℕ → Outcome → Outcome
outcome b zero done = done
outcome b (suc n) done = refused (suc n) b

-- what a rule comes to: refused by the first number that applies, or else done
abbrev pub ruled : Book → Rule → Outcome
ruled b r = outcome b (given r.refusals) r.done

-- "Each call answers a number and a value": what a call on a book comes to
unfoldable pub run : Book → Call → Outcome
run b c = ruled b (rule b c)
