-- A script: calls on an empty book of some room, with what each must answer. Assumes nothing.
use Rattle.std.specs.Prelude.{ℕ, Bool, true, ◌&&◌, List, [], ◌∷◌, map, eqb, length}
use Prim.Native.String.{String}
use Rattle.letters.specs.Words.{word_of, same}
use Rattle.letters.specs.Each.{every}
use Rattle.sets.specs.Residuals.{alike}
use Rattle.model.specs.Lists.{list_of, empty_lists}
use Rattle.model.specs.Call.{Call, Book, Outcome, book_with}
use Rattle.model.specs.Run.{run}
use Rattle.examples.specs.Text.{bytes}

-- what is done and what must come of it
pub data Step : Type 0 where
  -- a call, its number and its value; it has no second one
  gives : Call → ℕ → ℕ → Step
  -- a call that is done with two values
  pair : Call → ℕ → ℕ → Step
  -- a call that is done and writes this name
  writes : Call → String → Step
  -- the list of a mission is these names
  holds : ℕ → List String → Step

pub record Script : Type 0 where
  pub room : ℕ
  pub steps : List Step

-- the book after a call
abbrev book_after : Book → Outcome → Book
book_after b o = book_with b.room o.lists

-- does every step come out as it must?
unfoldable pub passes : Book → List Step → Bool
passes b [] = true
passes b (gives call number value ∷ steps) =
    let o = run b call in
    eqb o.number number && (eqb o.value value && (eqb o.second 0 && passes (book_after b o) steps))
passes b (pair call value second ∷ steps) =
    let o = run b call in
    eqb o.number 0 && (eqb o.value value && (eqb o.second second && passes (book_after b o) steps))
passes b (writes call name ∷ steps) =
    let o = run b call in
    eqb o.number 0
    && (eqb o.value (length (bytes name)) && (same o.written (bytes name) && passes (book_after b o) steps))
passes b (holds m names ∷ steps) = alike (list_of b.lists m) (map (λ name. word_of (bytes name)) names) && passes b steps

abbrev pub passes_all : List Script → Bool
passes_all scripts = every (λ s. passes (book_with s.room empty_lists) s.steps) scripts
