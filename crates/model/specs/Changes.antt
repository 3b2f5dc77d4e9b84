-- Whose list a call may change, and which calls are changes. Assumes nothing.
use Rattle.std.specs.Prelude.{ℕ, Bool, true, false, eqb}
use Rattle.model.specs.Call.{Call}
use Rattle.model.specs.Call.Call.{empty, check, ask, next, add, remove, clear, load, load_two, combine, count, rank, nth, write, used}

-- may the call change the list of mission n? empty may change all lists; add, remove, clear and both loads that of their mission; combine that of c
abbrev pub changes : Call → ℕ → Bool
changes empty n = true
changes (add m name) n = eqb n m
changes (remove m name) n = eqb n m
changes (clear m) n = eqb n m
changes (load m bytes) n = eqb n m
changes (load_two m first second) n = eqb n m
changes (combine op x y z) n = eqb n z
changes check n = false
changes (ask m name) n = false
changes (next m prefix) n = false
changes (count m) n = false
changes (rank m name) n = false
changes (nth m n size) k = false
changes (write m size) n = false
changes used n = false

-- is the call a change: may it change a list, and does its value say whether it did?
abbrev pub is_change : Call → Bool
is_change (add m name) = true
is_change (remove m name) = true
is_change (clear m) = true
is_change (load m bytes) = true
is_change (load_two m first second) = true
is_change (combine op x y z) = true
is_change empty = false
is_change check = false
is_change (ask m name) = false
is_change (next m prefix) = false
is_change (count m) = false
is_change (rank m name) = false
is_change (nth m n size) = false
is_change (write m size) = false
is_change used = false
