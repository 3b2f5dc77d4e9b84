-- `rest_ok` meets its promise: the first number behind the starts that is not 0 is behind the head exactly if they are all 0. Assumes nothing.
use Prim.Native.Nat.{ℕ}
use mathlib.Core.Path.{◌≡◌}
use mathlib.Core.Bool.{Bool, true, ◌||◌, or-true}
use mathlib.Core.Logic.{inl, inr}
use native.Mathlib.Decide.{ℕ_discrete}
use native.Mathlib.Omega.{arith}
use borrow.Author.Tests.{eq-eqb, eqb-true, lt-ltb, le-ltb}
use lib.Dec.{eqb, ltb}
use lib.ListN.{get_or}
use Rattle.letters.proofs.Below.{all-below, below_all}
use Rattle.sets.proofs.Below.{tests_agree}
use Rattle.model.specs.Lists.{missions}
use Rattle.rows.specs.Table.{Table, width}
use Rattle.rows.specs.Rules.{rest_ok}
use Rattle.rows.specs.Skips.{Skipped}
use Rattle.rows.proofs.Skipping.{lower-or-not}
use Rattle.rules.proofs.head.rest_ok.Goals as goal

-- what is asked of each number of the head
abbrev zero : Table → ℕ → Bool
zero t i = ltb i missions || eqb (get_or t i 0) 0

skipped-rest : (t : Table) (e : ℕ) → Skipped t missions width e → eqb e width ≡ rest_ok t
skipped-rest t e d = tests_agree _ _ all none
  where
    all : eqb e width ≡ true → rest_ok t ≡ true
    all h =
        let over = eqb-true e width h in
        below_all (zero t) width (λ i k.
        elim (lower-or-not i missions) [
          | inl start ↦ rw (lt-ltb i missions start)
          | inr rest ↦ rw (eq-eqb (get_or t i 0) 0 (d.before.zeros i rest (omega arith)), or-true)
        ])

    none : rest_ok t ≡ true → eqb e width ≡ true
    none h =
        elim (ℕ_discrete e width) [
          | yes over ↦ eq-eqb e width over
          | no early ↦
              let fine = rw (le-ltb e missions d.before.from) at (all-below (zero t) width h e (omega (arith, d.to))) in
              absurd (omega (arith, d.stops (omega (arith, d.to)), eqb-true (get_or t e 0) 0 fine))
        ]

pub returns : goal.returns
returns c = skipped-rest c.args.t.now _ c.past_zeros.ensures
