-- 02, wish 2: the next name of two lists for load, the part that it is, and the places behind it. Assumes nothing.
use Prim.Native.Nat.{ℕ, zero, suc, ◌+◌, ◌-◌, ◌≤◌, Ordering}
use Rattle.std.specs.Prelude.{◌≡◌, Bool, true, false, ◌&&◌, List, [], ◌∷◌, ltb, length, drop}
use Rattle.std.specs.Borrow.{Bor}
use Rattle.letters.specs.Each.{every}
use Rattle.letters.specs.Words.{word_of, order}
use Rattle.letters.specs.Names.{is_name}
use Rattle.letters.specs.Parts.{Part}
use Rattle.letters.specs.Lists.{name_at, name_end, lines_of, ended, rises, is_list, names_of}
use Rattle.sets.specs.Sets.{Words, both}
use Rattle.merging.specs.declared.places.Places.{Places}
use Rattle.merging.specs.declared.places.Turn.{Turn}
use Rattle.merging.specs.declared.places.Turn.TheVariants.{First, Second, Both, Neither}

-- ---- the next name

-- "The next name of the two is the smaller; on a tie it is the first list's and both move on."
abbrev pub smaller : Ordering → Turn
smaller Ordering.lt = First
smaller Ordering.eq = Both
smaller Ordering.gt = Second

-- has the first list a name left, has the second, and how does the one stand to the other?
abbrev pub whose : Bool → Bool → Ordering → Turn
whose false false o = Neither
whose false true o = Second
whose true false o = First
whose true true o = smaller o

unfoldable pub turn_of : List ℕ → List ℕ → Places → Turn
turn_of f s at =
    whose (ltb at.first (length f)) (ltb at.second (length s)) (order (word_of (name_at f at.first)) (word_of (name_at s at.second)))

-- its bytes
abbrev pub bytes_by : Turn → List ℕ → List ℕ → Places → List ℕ
bytes_by First f s at = name_at f at.first
bytes_by Both f s at = name_at f at.first
bytes_by Second f s at = name_at s at.second
bytes_by Neither f s at = []

abbrev pub next_bytes : List ℕ → List ℕ → Places → List ℕ
next_bytes f s at = bytes_by (turn_of f s at) f s at

-- "It is handed over as the part of whichever list it stands in, so that the editor can mark it there. At the end of both, .. it is an empty part."
abbrev pub Handed : Turn → Bor (List ℕ) → Bor (List ℕ) → Places → Bor (List ℕ) → Type 0
Handed First f s at part = Part f at.first (name_end f.now at.first) part
Handed Both f s at part = Part f at.first (name_end f.now at.first) part
Handed Second f s at part = Part s at.second (name_end s.now at.second) part
Handed Neither f s at part = part.now ≡ []

abbrev pub NextPart : Bor (List ℕ) → Bor (List ℕ) → Places → Bor (List ℕ) → Type 0
NextPart f s at part = Handed (turn_of f.now s.now at) f s at part

-- "or if either is no list, it is an empty part."
abbrev pub HandedOf : Bool → Bor (List ℕ) → Bor (List ℕ) → Places → Bor (List ℕ) → Type 0
HandedOf true f s at part = NextPart f s at part
HandedOf false f s at part = part.now ≡ []

abbrev pub NextName : Bor (List ℕ) → Bor (List ℕ) → Places → Bor (List ℕ) → Type 0
NextName f s at part = HandedOf (is_list f.now && is_list s.now) f s at part

-- ---- one name after another

-- the places behind the name and its line end: "on a tie .. both move on"
abbrev pub moved_by : Turn → List ℕ → List ℕ → Places → Places
moved_by First f s at = record { first = name_end f at.first + 1; second = at.second }
moved_by Both f s at = record { first = name_end f at.first + 1; second = name_end s at.second + 1 }
moved_by Second f s at = record { first = at.first; second = name_end s at.second + 1 }
moved_by Neither f s at = at

abbrev pub places_after : List ℕ → List ℕ → Places → Places
places_after f s at = moved_by (turn_of f s at) f s at

-- the fronts of both lists
abbrev pub fronts : Places
fronts = record { first = 0; second = 0 }

-- the words of the parts taken one after another, so many at most, up to an empty one
abbrev pub take_on : List ℕ → Words → Words
take_on [] more = []
take_on (b ∷ bytes) more = word_of (b ∷ bytes) ∷ more

unfoldable pub merged : ℕ → List ℕ → List ℕ → Places → Words
merged zero f s at = []
merged (suc n) f s at = take_on (next_bytes f s at) (merged n f s (places_after f s at))

-- ---- both lists from some places on

-- the names from a place on
abbrev pub names_from : List ℕ → ℕ → Words
names_from list at = names_of (drop at list)

-- from the place on it is a list: "each name followed by 0x0A, names strictly rising"
pub record Listed (list : List ℕ) (at : ℕ) : Type 0 where
  pub inside : at ≤ length list
  pub ended : ended (drop at list) ≡ true
  pub named : every is_name (lines_of (drop at list)) ≡ true
  pub rising : rises (names_from list at) ≡ true

-- from these places on both are lists
pub record Lists (f s : List ℕ) (at : Places) : Type 0 where
  pub first : Listed f at.first
  pub second : Listed s at.second

-- "Demand 2 reads the result as the union": the names of both from these places on, each once
abbrev pub both_from : List ℕ → List ℕ → Places → Words
both_from f s at = both (names_from f at.first) (names_from s at.second)

-- how many bytes are left
abbrev pub bytes_left : List ℕ → List ℕ → Places → ℕ
bytes_left f s at = (length f - at.first) + (length s - at.second)
