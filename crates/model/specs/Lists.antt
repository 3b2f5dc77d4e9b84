-- "A book holds sixteen lists of names for missions 0 to 15." Assumes nothing.
use Rattle.std.specs.Prelude.{ℕ, suc, ◌≡◌, Bool, true, false, List, [], ◌∷◌, length, get_or, set, replicate}
use Rattle.letters.specs.Each.{Each}
use Rattle.letters.specs.Words.{Word, bytes_of, before}
use Rattle.letters.specs.Names.{is_name}
use Rattle.sets.specs.Sets.{Words, Plain, keep}
use Rattle.sets.specs.Residuals.{residual, after}

-- the greatest mission number, and how many missions there are
abbrev pub last_mission : ℕ
last_mission = 15

abbrev pub missions : ℕ
missions = suc last_mission

-- "A book holds sixteen lists of names": sixteen plain sets of names
pub record SixteenSets (ls : List Words) : Type 0 where
  pub sixteen : length ls ≡ missions
  pub plain : Each Plain ls
  pub names : Each (Each (λ w. is_name (bytes_of w) ≡ true)) ls

-- the list of mission m, and the lists with another one for mission m
abbrev pub list_of : List Words → ℕ → Words
list_of ls m = get_or ls m []

abbrev pub replace : List Words → ℕ → Words → List Words
replace ls m l = set ls m l

abbrev pub empty_lists : List Words
empty_lists = replicate missions []

-- is there a name on the list?
abbrev pub has_names : Words → Bool
has_names [] = false
has_names (w ∷ l) = true

-- "rank: how many names of the list stand before a given name, which need not be on it"
abbrev pub rank_of : Word → Words → ℕ
rank_of w l = length (keep (λ v. before v w) l)

-- "nth: the name with n names before it"
abbrev pub nth_of : ℕ → Words → Word
nth_of n l = get_or l n []

-- "which letters may follow a prefix on a mission's list?"
abbrev pub may_follow : Word → Words → ℕ → Bool
may_follow u l x = has_names (after x (residual u l))
