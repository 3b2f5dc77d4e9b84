-- Replacing one of the sixteen lists: that one is the new one, every other stays, and by itself nothing changes.
-- The lists stand in a list by mission, so each is the library's law of `set`. What holds of each list holds of a mission's, and of each after a
-- list was replaced by one that it holds of. Assumes nothing.
use Prim.Native.Nat.{ℕ, zero, suc, ◌<◌}
use mathlib.Core.Path.{◌≡◌}
use mathlib.Core.Logic.{◌≢◌}
use mathlib.Core.List.{List, [], ◌∷◌}
use lib.ListN.{length}
use lib.Seq.{get_or-set_same, get_or-set_other, set-get_or}
use Rattle.letters.specs.Each.{Each}
use Rattle.sets.specs.Sets.{Words}
use Rattle.model.specs.Lists.{list_of, replace}

pub replace-same : (ls : List Words) (m : ℕ) (l : Words) → m < length ls → list_of (replace ls m l) m ≡ l
replace-same ls m l h = get_or-set_same ls m l _ h

pub replace-other : (ls : List Words) (m n : ℕ) (l : Words) → n ≢ m → list_of (replace ls m l) n ≡ list_of ls n
replace-other ls m n l h = get_or-set_other ls m n l _ h

pub replace-itself : (ls : List Words) (m : ℕ) → replace ls m (list_of ls m) ≡ ls
replace-itself ls m = set-get_or ls m _

pub list-each : (P : Words → Type 0) (ls : List Words) (m : ℕ) → Each P ls → P [] → P (list_of ls m)
list-each P [] m each none = none
list-each P (k ∷ ls) zero each none = each.0
list-each P (k ∷ ls) (suc m) each none = list-each P ls m each.1 none

pub replace-each : (P : Words → Type 0) (ls : List Words) (m : ℕ) (l : Words) → Each P ls → P l → Each P (replace ls m l)
replace-each P [] m l each new = tt
replace-each P (k ∷ ls) zero l each new = (new, each.1)
replace-each P (k ∷ ls) (suc m) l each new = (each.0, replace-each P ls m l each.1 new)
