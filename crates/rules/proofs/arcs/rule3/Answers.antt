use Prim.Native.Nat.{ℕ, ◌*◌, ◌≤◌, max}
use mathlib.Core.Path.{◌≡◌, refl, sym, ◌∙◌}
use mathlib.Core.List.{List}
use native.Mathlib.Decide.{ℕ_discrete}
use native.Mathlib.Numerals.{add-one}
use native.Mathlib.Omega.{arith}
use borrow.Author.Rules.{rules}
use Rattle.letters.specs.Letters.{letters}
use Rattle.letters.specs.Below.{all_below}
use Rattle.letters.proofs.Below.{not_all_below}
use Rattle.sets.specs.Below.{total}
use Rattle.rows.specs.Table.{Table, row_count}
use Rattle.rows.specs.Rules.{rule3}
use Rattle.index.proofs.Keeping.{keyed-skip}
use Rattle.index.specs.Arcs.{arcs_below, Adds, Few}
use Rattle.index.proofs.Arcs.{adds_none, adds-both, below-most, below_more}
use Rattle.sets.proofs.Loops.{all_more, all_done}
use Rattle.rules.proofs.Writes.{not-passed}
use Rattle.rules.proofs.arcs.rule3.Goals as goal

-- the loop ends behind the last row, and in a table without rows at row 1, below which nothing is in use
all-rows : (t : Table) (k r : ℕ) {p q : List ℕ} → k ≤ r → r ≤ max k 1
    → Adds (λ s. arcs_below t r s) p q → Adds (λ s. arcs_below t k s) p q
unfolding total
all-rows t k r past near d =
    elim (ℕ_discrete r k) [
      | yes e ↦ rw e at d
      | no e ↦
          let none : k ≡ 0 = omega arith in
          let one : r ≡ 1 = omega arith in
          rw none (rw one at d)
    ]

-- no more arcs lead to a row than there are letters in the rows so far
few : (t : Table) (r : ℕ) {p q : List ℕ} → Few 0 p → Adds (λ s. arcs_below t r s) p q → Few (r * letters) q
few t r none d s h = omega (arith, none s h, d.adds s h, below-most t r s)

pub loop-r-init : goal.loop-r-init
unfolding all_below total
loop-r-init c = (omega arith, refl, adds_none (λ s h. refl), keyed-skip c.requires.2 (λ u. omega (arith, u.positive)))

pub row_ok-requires : goal.row_ok-requires
row_ok-requires c =
    (search rules, c.requires.1, c.loop-r.invariant.3, few c.args.t.now c.loop-r.r c.requires.3 c.loop-r.invariant.2)

pub returns-then-not-row_ok-clause-tested : goal.returns-then-not-row_ok-clause-tested
unfolding rule3
returns-then-not-row_ok-clause-tested c =
    let refused = sym c.row_ok.ensures.tested.says ∙ c.if-not-row_ok.true in
    not-passed (sym (not_all_below _ _ c.loop-r.r (omega arith) refused)) (omega arith)

pub loop-r-preserved : goal.loop-r-preserved
loop-r-preserved c =
    let l = c.loop-r in
    let t = c.args.t.now in
    let passed = c.if-not-row_ok.false in (
      omega arith,
      all_more _ l.r l.invariant.1 (sym c.row_ok.ensures.tested.says ∙ passed),
      adds-both l.invariant.2 (c.row_ok.ensures.tested.counts passed) (λ s h. rw add-one (below_more t l.r s)),
      rw add-one (c.row_ok.ensures.keyed.passed passed),
    )

pub returns-clause-tested : goal.returns-clause-tested
unfolding rule3
returns-clause-tested c =
    let l = c.loop-r in
    let t = c.args.t.now in
    record {
      says = sym (all_done _ l.r (row_count t) l.invariant.1 (omega arith));
      long = l.invariant.2.long;
      counts = λ _. all-rows t (row_count t) l.r (omega arith) (omega arith) l.invariant.2;
    }
