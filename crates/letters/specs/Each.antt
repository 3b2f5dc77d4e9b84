-- What is said of every part of a list, as a test and as a fact, and of some part. Assumes nothing.
use Rattle.std.specs.Prelude.{Bool, true, false, ◌&&◌, ◌||◌, List, [], ◌∷◌}

-- the test passes at every part of the list
abbrev pub every : {A : Type 0} → (A → Bool) → List A → Bool
every test [] = true
every test (a ∷ l) = test a && every test l

-- the test passes at some part of the list
abbrev pub some : {A : Type 0} → (A → Bool) → List A → Bool
some test [] = false
some test (a ∷ l) = test a || some test l

-- the fact holds of every part of the list
abbrev pub Each : {A : Type 0} → (A → Type 0) → List A → Type 0
Each P [] = Unit {0}
Each P (a ∷ l) = P a × Each P l
