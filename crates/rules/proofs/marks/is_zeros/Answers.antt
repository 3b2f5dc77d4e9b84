-- `is_zeros` meets its promise: the first number that is not 0 is behind the row exactly if they are all 0. Assumes nothing.
use Prim.Native.Nat.{ℕ, ◌+◌, ◌-◌, ◌*◌}
use mathlib.Core.Path.{◌≡◌}
use mathlib.Core.Bool.{true}
use native.Mathlib.Decide.{ℕ_discrete}
use native.Mathlib.Omega.{arith}
use borrow.Author.Tests.{eq-eqb, eqb-true}
use lib.Dec.{eqb}
use lib.ListN.{get_or}
use Rattle.letters.proofs.Below.{all-below, below_all}
use Rattle.sets.proofs.Below.{tests_agree}
use Rattle.rows.specs.Table.{Table, width}
use Rattle.rows.specs.Rules.{is_zeros}
use Rattle.rows.specs.Skips.{Skipped}
use Rattle.rules.proofs.marks.is_zeros.Goals as goal

skipped-zeros : (t : Table) (r e : ℕ) → Skipped t (r * width) (r * width + width) e → eqb e (r * width + width) ≡ is_zeros t r
skipped-zeros t r e d = tests_agree _ _ all none
  where
    all : eqb e (r * width + width) ≡ true → is_zeros t r ≡ true
    all h =
        let over = eqb-true e (r * width + width) h in
        below_all _ width (λ i k. eq-eqb (get_or t (r * width + i) 0) 0 (d.before.zeros (r * width + i) (omega arith) (omega arith)))

    none : is_zeros t r ≡ true → eqb e (r * width + width) ≡ true
    none h =
        elim (ℕ_discrete e (r * width + width)) [
          | yes over ↦ eq-eqb e (r * width + width) over
          | no early ↦
              let here : r * width + (e - r * width) ≡ e = omega (arith, d.before.from) in
              let zero = eqb-true (get_or t (r * width + (e - r * width)) 0) 0 (all-below (λ i. eqb (get_or t (r * width + i) 0) 0) width h (e - r * width) (omega (arith, d.to))) in
              absurd (omega (arith, d.to, d.stops (omega (arith, d.to)), rw here at zero))
        ]

pub returns : goal.returns
returns c = let args = c.args in skipped-zeros args.t.now args.r _ c.past_zeros.ensures
