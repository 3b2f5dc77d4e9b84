-- `shared_letters` meets its promise: the pairs of bytes that are one letter, as far as they go on, are the letters that the words share.
-- Assumes nothing.
use Prim.Native.Nat.{ℕ}
use native.Mathlib.Omega.{arith}
use borrow.Author.Rules.{rules}
use borrow.Author.Tests.{tests}
use mathlib.Core.Path.{◌≡◌, refl, ◌∙◌}
use mathlib.Core.Bool.{Bool}
use mathlib.Core.List.{List, [], ◌∷◌}
use lib.Dec.{eqb}
use Rattle.std.specs.List.{zip, prefix_len}
use Rattle.std.proofs.lemmas.Iterator.{YieldsList-from_slice, YieldsList-from_zip}
use Rattle.std.proofs.lemmas.Iterator.Consumers.{YieldsList-at, count_from_yields_List}
use Rattle.std.proofs.lemmas.Iterator.Search.{YieldsList-from_take_while}
use Rattle.std.proofs.lemmas.List.Folds.{length-prefix_len}
use Rattle.letters.specs.Letters.{letter}
use Rattle.letters.specs.Words.{word_of}
use Rattle.letters.proofs.Tests.{by-test}
use Rattle.model.specs.Prefixes.{shared}
use Rattle.building.proofs.depths.shared_letters.Goals as goal

-- one letter twice
abbrev twice : ℕ × ℕ → Bool
twice pair = eqb (letter pair.0) (letter pair.1)

alike : (a b : List ℕ) → prefix_len twice (zip a b) ≡ shared (word_of a) (word_of b)
unfolding shared
alike [] b = refl
alike (x ∷ a) [] = refl
alike (x ∷ a) (y ∷ b) = by-test (eqb (letter x) (letter y)) (λ e. rw e (omega (arith, alike a b))) (λ e. rw e)

pub returns : goal.returns
returns c =
    let pairs = zip c.args.a.now c.args.b.now in
    count_from_yields_List c.take_while.result _ c.count.ensures.ran
    (YieldsList-from_take_while _ twice
    (YieldsList-at c.take_while.ensures.source
    (YieldsList-from_zip (YieldsList-at c.zip.ensures.first (YieldsList-from_slice c.args.a.now c.iter.ensures.rest)) (YieldsList-from_slice c.args.b.now c.zip.ensures.second.0)))
    c.take_while.ensures.closure c.take_while.ensures.done (λ x b q k. search (rules, tests)))
    ∙ length-prefix_len twice pairs ∙ alike c.args.a.now c.args.b.now
