-- `next` meets its promise: the places that are skipped are those of letters without a target. Assumes nothing.
use Prim.Native.Nat.{◌<◌}
use mathlib.Core.Path.{◌≡◌, refl}
use native.Mathlib.Omega.{arith}
use native.Mathlib.Numerals.{add-one}
use lib.ListN.{length, length-take, length-drop}
use Rattle.letters.specs.Letters.{letters}
use Rattle.rows.specs.Skips.{Skipped, NextArc}
use Rattle.rows.specs.declared.arcs.Arcs.{Arcs}
use Rattle.rows.proofs.Skipping.{row_target, skipped-arc}
use Rattle.rows.proofs.steps.ArcsIterator.next.Goals as goal

-- a row inside the table has all its targets
long : (s : Arcs) → length s.targets.now ≡ letters
long s = rw (s.of_row, length-take, length-drop) (omega (arith, s.inside))

arc : (s : Arcs) (x : _) → Skipped s.targets.now s.from letters x → NextArc s.t.now s.row s.from x
arc s x d = skipped-arc s.t.now s.row s.from x (rw s.of_row at d)

pub past_zeros-x-requires : goal.past_zeros-x-requires
past_zeros-x-requires c = (c.args.self.now.to, omega (arith, long c.args.self.now))

pub returns-then-x-eq-LETTERS-clause-steps : goal.returns-then-x-eq-LETTERS-clause-steps
returns-then-x-eq-LETTERS-clause-steps c =
    let s = c.args.self.now in
    record { table = refl; row = refl; gives = (rw c.if-x-eq-LETTERS.true at (arc s _ c.past_zeros-x.ensures), refl) }

pub returns-clause-steps : goal.returns-clause-steps
returns-clause-steps c =
    let s = c.args.self.now in
    let next = arc s _ c.past_zeros-x.ensures in
    let inside : c.past_zeros-x.result < letters = omega (arith, c.past_zeros-x.ensures.to, c.if-x-eq-LETTERS.false) in
    record {
      table = refl;
      row = refl;
      gives = (record { next = next; inside = inside; to = rw s.of_row (row_target s.t.now s.row _ inside) }, add-one _);
    }
