-- `make` meets its promise: each way out is one of the laws of making a row, and the tests on the way are what that law asks. The index says which
-- row agrees, and which is free; the row that is written comes into its bucket. Assumes nothing.
use Prim.Native.Nat.{ℕ, ◌<◌}
use mathlib.Core.Path.{◌≡◌, sym, ◌∙◌}
use native.Mathlib.Omega.{arith}
use lib.ListN.{get_or}
use Rattle.letters.specs.Letters.{letters}
use Rattle.rows.specs.Table.{row_count}
use Rattle.index.specs.Index.{Finds}
use Rattle.growing.specs.Rows.{height_over, NewRow}
use Rattle.growing.proofs.Entering.{Free, first-free, written-entering}
use Rattle.growing.proofs.Making.{height-fits, targets-inside, none_made, found-made, full-made, new-made}
use Rattle.growing.proofs.makes.make.Goals as goal
use Rattle.growing.proofs.makes.make.Goals.{else-mark-eq1-via-then-mark-eq1+else-past_zeros-eq-LETTERS, else-mark-eq1-via-else-mark-eq1, After-find-same, After-write_row, Else-free-eq0, Joined-else-mark-eq1, Start}

pub returns-then-past_zeros-eq-LETTERS-clause-makes : goal.returns-then-past_zeros-eq-LETTERS-clause-makes
returns-then-past_zeros-eq-LETTERS-clause-makes c =
    let (tidy, indexed, fitting) = c.requires in
    let skipped = c.past_zeros.ensures in
    let over = c.if-past_zeros-eq-LETTERS.true in
    none_made _ _ _ tidy fitting (omega arith) (λ x h. skipped.before.zeros x (omega arith) (omega (arith, over)))

-- behind the first test: where no name may end, there is a target
some : (c : Joined-else-mark-eq1) → c.args.mark ≡ 1 → (x : ℕ) × (x < letters) × (0 < get_or c.args.targets x 0)
some c one =
    elim c.else-mark-eq1.branch [
      | else-mark-eq1-via-then-mark-eq1+else-past_zeros-eq-LETTERS w ↦
          let skipped = w.past_zeros.ensures in
          let early : w.past_zeros.result < letters = omega (arith, skipped.to, w.if-past_zeros-eq-LETTERS.false) in
          (w.past_zeros.result, early, skipped.stops early)
      | else-mark-eq1-via-else-mark-eq1 w ↦ absurd (omega arith)
    ]

-- what is found has the mark and the targets
found : (c : After-find-same) → let args = c.args in
    Finds args.t.now (row_count args.t.now) args.mark args.targets c.find-same.result
found c = rw (c.new.ensures.mark, c.new.ensures.targets) at c.find-same.ensures

pub returns-then-same-ne0-clause-makes : goal.returns-then-same-ne0-clause-makes
returns-then-same-ne0-clause-makes c =
    let (tidy, indexed, fitting) = c.requires in
    found-made _ _ _ tidy fitting (found (goal.at.returns-then-same-ne0-clause-makes c).After-find-same) (omega arith)

pub returns-then-free-eq0-clause-makes : goal.returns-then-free-eq0-clause-makes
returns-then-free-eq0-clause-makes c =
    let (tidy, indexed, fitting) = c.requires in
    full-made _ _ _ tidy fitting indexed (sym c.free_row-free.ensures ∙ omega arith)

-- where a row is free, it is inside the table
free : (c : Else-free-eq0) → Free c.args.t.now (get_or c.args.index.now 0 0)
free c =
    let (tidy, indexed, fitting) = c.requires in
    first-free _ indexed (omega (arith, c.free_row-free.ensures))

pub overflow_cast-height : goal.overflow_cast-height
overflow_cast-height c =
    let (tidy, indexed, fitting) = c.requires in
    omega (arith, c.height_over-height.ensures, height-fits _ _ _ tidy fitting)

-- the last free row is written
written : (c : After-write_row) →
    let args = c.args in
    NewRow args.t.now c.write_row.new.t (get_or args.index.now 0 0) args.mark (height_over args.t.now args.targets) args.targets
written c =
    rw (← c.free_row-free.ensures, ← c.height_over-height.ensures) c.write_row.ensures

pub enter-requires : goal.enter-requires
enter-requires c =
    let (tidy, indexed, fitting) = c.requires in
    let at = goal.at.enter-requires c in
    rw c.free_row-free.ensures
    (written-entering _ indexed (free at.Else-free-eq0).positive fitting.some (written at.After-write_row) (targets-inside _ _ _ tidy fitting))

pub returns-clause-makes : goal.returns-clause-makes
returns-clause-makes c =
    let (tidy, indexed, fitting) = c.requires in
    let none : c.find-same.result ≡ 0 = omega arith in
    let at = goal.at.returns-clause-makes c in
    rw c.free_row-free.ensures
    (new-made _ _ _ tidy fitting _ (some at.Joined-else-mark-eq1) (rw none at (found at.After-find-same)) _ (free at.Else-free-eq0)
    (written at.After-write_row))
