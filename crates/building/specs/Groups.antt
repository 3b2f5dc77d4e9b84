-- Groups of the names of two lists for load: names that stand together and share their first letters. Assumes nothing.
use Rattle.std.specs.Prelude.{ℕ, suc, ◌≤◌, ◌<◌, ◌≡◌, cond, List, [], ◌∷◌, ◌++◌, map, eqb, length, take}
use Rattle.letters.specs.Words.{Word, word_of}
use Rattle.sets.specs.Sets.{Words}
use Rattle.sets.specs.Residuals.{residual}
use Rattle.model.specs.Prefixes.{shared}
use Rattle.merging.specs.declared.places.Places.{Places}
use Rattle.merging.specs.Merging.{next_bytes, places_after, Lists, both_from}
use Rattle.building.specs.declared.depths.Ahead.{Ahead}

-- a group: from the places on the names that begin with the first so many letters of the next name there
pub record Begins (f s : List ℕ) (at : Places) (name : List ℕ) (depth : ℕ) : Type 0 where
  pub lists : Lists f s at
  pub next : name ≡ next_bytes f s at
  pub some : 0 < length name
  pub deep : depth ≤ length name

-- the letters that the names of the group share, and what is left of the names after them
abbrev pub opening : List ℕ → ℕ → Word
opening name depth = word_of (take depth name)

abbrev pub group : List ℕ → List ℕ → Places → List ℕ → ℕ → Words
group f s at name depth = residual (opening name depth) (both_from f s at)

-- the places of the first name of the group that has more letters than all share
abbrev pub first_places : List ℕ → List ℕ → Places → List ℕ → ℕ → Places
first_places f s at name depth = cond (eqb (length name) depth) (places_after f s at) at

-- how deep a next name is among those that begin with u: one more than the letters that it shares with u; 0 where there is none
abbrev pub depth_of : Word → List ℕ → ℕ
depth_of u [] = 0
depth_of u (b ∷ bytes) = suc (shared u (word_of (b ∷ bytes)))

abbrev pub deep_in : Word → Words → ℕ
deep_in u [] = 0
deep_in u (v ∷ l) = suc (shared u v)

-- it is said of the places that are ahead
abbrev pub Deep : List ℕ → List ℕ → Word → Ahead → Type 0
Deep f s u ahead = ahead.deep ≡ deep_in u (both_from f s ahead.places)

-- the places behind the names of the group: they all stand before them, with no other, and no name from there on begins with these letters
pub record Behind (f s : List ℕ) (at : Places) (name : List ℕ) (depth : ℕ) (ahead : Ahead) : Type 0 where
  pub lists : Lists f s ahead.places
  pub split : both_from f s at ≡ map (λ w. opening name depth ++ w) (group f s at name depth) ++ both_from f s ahead.places
  pub none : residual (opening name depth) (both_from f s ahead.places) ≡ []
  pub deep : Deep f s (opening name depth) ahead
