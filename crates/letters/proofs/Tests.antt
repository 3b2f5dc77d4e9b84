-- A test is true or false: what follows either way follows. Assumes nothing.
use mathlib.Core.Path.{◌≡◌, refl}
use mathlib.Core.Bool.{Bool, true, false}

pub by-test : {A : Type 0} (t : Bool) → (t ≡ true → A) → (t ≡ false → A) → A
by-test true when_true when_false = when_true refl
by-test false when_true when_false = when_false refl
