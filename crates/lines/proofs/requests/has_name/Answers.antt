-- `has_name` meets its promise: what it asks are the tests of `has_name`. Assumes nothing.
use mathlib.Core.Path.{◌≡◌, refl}
use mathlib.Core.Bool.{Bool}
use mathlib.Core.List.{List, [], ◌∷◌}
use borrow.Author.Tests.{le-leb, lt-leb}
use Rattle.std.specs.List.{list_any}
use Rattle.letters.specs.Each.{some}
use Rattle.lines.specs.Requests.{name_start}
use Rattle.lines.proofs.requests.has_name.Goals as goal

any-some : {A : Type 0} (p : A → Bool) (l : List A) → list_any p l ≡ some p l
any-some p [] = refl
any-some p (a ∷ l) = rw (any-some p l)

pub returns-then-line-lt-NAME : goal.returns-then-line-lt-NAME
returns-then-line-lt-NAME c = search lt-leb

pub returns : goal.returns
returns c =
    rw (c.contains.ensures.value, any-some, c.name_of.ensures, le-leb name_start _ c.if-line-lt-NAME.false)
