use Prim.Native.Nat.{ℕ, ◌+◌, ◌<◌}
use mathlib.Core.Path.{◌≡◌, ◌∙◌}
use mathlib.Core.List.{List}
use native.Mathlib.Numerals.{add-one}
use native.Mathlib.Omega.{arith}
use borrow.Author.Tests.{lt-ltb}
use lib.ListN.{length, get_or, drop}
use lib.Seq.{drop-cons}
use Rattle.letters.specs.Letters.{letters, letter}
use Rattle.letters.specs.Names.{spelled}
use Rattle.letters.proofs.Laws.{letter-le}
use Rattle.letters.proofs.names.is_spelled.Goals as goal

one-letter : (s : List ℕ) (i : ℕ) → i < length s → (letter (get_or s i 0) ≡ letters → ⊥) → spelled (drop i s) ≡ spelled (drop (i + 1) s)
one-letter s i h n = rw (drop-cons s i 0, add-one, lt-ltb (letter (get_or s i 0)) letters (omega (arith, letter-le (get_or s i 0))))

pub loop-b-preserved : goal.loop-b-preserved
loop-b-preserved c =
    c.loop-b.invariant
    ∙ one-letter _ _ c.loop-b-test.true (λ e. c.if-letter_of-eq-LETTERS.false (c.letter_of.ensures ∙ e))
