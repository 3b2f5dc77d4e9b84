use Prim.Native.Nat.{ℕ, ◌+◌}
use mathlib.Core.Path.{◌≡◌}
use mathlib.Core.Bool.{Bool, ◌&&◌, and-true, and_assoc}
use native.Mathlib.Numerals.{add-one}
use lib.Dec.{eqb}
use lib.ListN.{get_or}
use Rattle.letters.specs.Below.{all_below}
use Rattle.rows.specs.Table.{mark, target}
use Rattle.index.proofs.finds.Wanted.same_as.Goals as goal

-- one letter more is compared
same_more : (first : Bool) (test : ℕ → Bool) (x : ℕ) {same : Bool} → same ≡ (first && all_below x test) → (same && test x) ≡ (first && all_below (x + 1) test)
unfolding all_below
same_more first test x e = rw (e, add-one) (and_assoc first (all_below x test) (test x))

pub loop-x-init : goal.loop-x-init
unfolding all_below
loop-x-init c = rw (c.mark.ensures, and-true)

pub loop-x-preserved : goal.loop-x-preserved
loop-x-preserved c =
    let l = c.loop-x in
    let args = c.args in
    let first = eqb (mark args.t.now args.r) args.self.mark in
    let test : ℕ → Bool = λ y. eqb (target args.t.now args.r y) (get_or args.self.targets.now y 0) in
    rw c.target.ensures (same_more first test l.x l.invariant)
