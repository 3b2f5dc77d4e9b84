-- On a sound book what a call comes to is the model's outcome: ask and next by the walk are the model's. The refusals are the same; where none
-- applies, the mission is one of the sixteen and the bytes are a word of letters, and there the walk says what the plain set says. Assumes
-- nothing.
use Prim.Native.Nat.{ℕ, zero, suc, ◌<◌}
use native.Mathlib.Omega.{arith}
use mathlib.Core.Path.{◌≡◌, refl}
use mathlib.Core.Bool.{true}
use mathlib.Core.List.{List}
use borrow.Author.Tests.{ltb-false, not-false}
use Rattle.letters.specs.Words.{word_of}
use Rattle.letters.specs.Names.{is_name, is_prefix}
use Rattle.letters.proofs.Words.{name-parts, prefix-parts}
use Rattle.letters.proofs.LetterSet.{sum-agree, count-agree}
use Rattle.sets.proofs.Membership.{In, here, there}
use Rattle.model.specs.Lists.{last_mission, missions}
use Rattle.model.specs.Call.{Book, Call, Outcome}
use Rattle.model.specs.Call.Call.{empty, check, ask, next, add, remove, clear, load, load_two, combine, count, rank, nth, write, used}
use Rattle.model.specs.Refusals.{given, bad_mission, no_name, no_prefix}
use Rattle.model.specs.Run.{rule, outcome, ruled, run}
use Rattle.model.proofs.Refusals.{none-applies}
use Rattle.rows.specs.Table.{Table}
use Rattle.rows.specs.Rules.{sound}
use Rattle.minimal.proofs.Theorems.{sound-ask, sound-far, sound-next}
use Rattle.promises.specs.Books.{book_of}
use Rattle.promises.specs.Walks.{ask_walk, next_walk}
use Rattle.promises.specs.Promises.{outcome_of}

-- what a call comes to when done decides only where nothing refuses it
pub same_outcome : (b : Book) (n : ℕ) (d e : Outcome) → (n ≡ 0 → d ≡ e) → outcome b n d ≡ outcome b n e
same_outcome b zero d e f = f refl
same_outcome b (suc n) d e f = refl

pub mission-below : (b : Book) (call : Call) (m : ℕ) → In (bad_mission m) (rule b call).refusals → given (rule b call).refusals ≡ 0 → m < missions
mission-below b call m i none = omega (arith, ltb-false last_mission m (none-applies b call (bad_mission m) i none))

module _ (t : Table) (m : ℕ) (bytes : List ℕ) where
  abbrev b : Book
  b = book_of t

  -- On a sound book ask by the walk is the model's ask, for every mission number and all bytes; and so is next.
  pub ask-run : sound t ≡ true → ruled b (ask_walk t m bytes) ≡ run (book_of t) (ask m bytes)
  unfolding run
  ask-run e =
      let call = ask m bytes in
      same_outcome b (given (rule b call).refusals) _ _
      (λ none.
      let mission = mission-below b call m (there (here refl)) none in
      let name = not-false (is_name bytes) (none-applies b call (no_name bytes) (there (there (here refl))) none) in
      let spelled = (name-parts bytes name).2 in
      rw (sound-ask t e m mission (word_of bytes) spelled, sound-far t e m mission (word_of bytes) spelled))

  pub next-run : sound t ≡ true → ruled b (next_walk t m bytes) ≡ run (book_of t) (next m bytes)
  unfolding run
  next-run e =
      let call = next m bytes in
      same_outcome b (given (rule b call).refusals) _ _
      (λ none.
      let mission = mission-below b call m (there (here refl)) none in
      let prefix = not-false (is_prefix bytes) (none-applies b call (no_prefix bytes) (there (there (here refl))) none) in
      let same = sound-next t e m mission (word_of bytes) (prefix-parts bytes prefix).1 in
      rw (sum-agree _ _ _ same, count-agree _ _ _ same))

-- On a sound book every call comes to what the model says.
pub sound-outcome : (t : Table) → sound t ≡ true → (call : Call) → outcome_of t call ≡ run (book_of t) call
sound-outcome t s (ask m name) = ask-run t m name s
sound-outcome t s (next m prefix) = next-run t m prefix s
sound-outcome t s empty = refl
sound-outcome t s check = refl
sound-outcome t s (add m name) = refl
sound-outcome t s (remove m name) = refl
sound-outcome t s (clear m) = refl
sound-outcome t s (load m list) = refl
sound-outcome t s (load_two m first second) = refl
sound-outcome t s (combine op a b c) = refl
sound-outcome t s (count m) = refl
sound-outcome t s (rank m name) = refl
sound-outcome t s (nth m n size) = refl
sound-outcome t s (write m size) = refl
sound-outcome t s used = refl
