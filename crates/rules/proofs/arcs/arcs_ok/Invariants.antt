-- `arcs_ok` meets its promise. The loop's invariant: the targets of the letters below the one that the arcs go on from are fine, `top` is the
-- greatest height that they ask for, `m` is what they are mixed to for the key, and the array counts them; a letter that is passed has no target and
-- changes nothing. A target that is neither 0 nor a row in use breaks the rule; after the loop the height and number 39 decide. No more arcs lead to
-- a row than there are letters so far, so each number has place for one more. Assumes nothing.
use Prim.Native.Nat.{ℕ, suc, ◌*◌, ◌<◌}
use mathlib.Core.Path.{◌≡◌}
use mathlib.Core.Bool.{true, ◌||◌}
use mathlib.Core.List.{List}
use lib.Dec.{eqb}
use Rattle.letters.specs.Below.{all_below}
use Rattle.sets.specs.Below.{greatest}
use Rattle.rows.specs.Table.{Table, mark, target, in_use}
use Rattle.rows.specs.Rules.{above}
use Rattle.rows.specs.Arcs.{ArcsOf}
use Rattle.index.specs.Buckets.{mix, product_bound}
use Rattle.index.specs.Arcs.{arcs_from, Adds}
use Rattle.rules.proofs.arcs.arcs_ok.Given as goal

-- the letters below x are followed
pub record Followed (t : Table) (r x top m : ℕ) (p q : List ℕ) : Type 0 where
  pub fine : all_below x (λ y. eqb (target t r y) 0 || in_use t (target t r y)) ≡ true
  pub asked : top ≡ greatest x (λ y. above t (target t r y))
  pub mixes : m ≡ mix (mark t r) (λ y. target t r y) x
  pub small : m < suc x * product_bound
  pub counts : Adds (λ s. arcs_from t r x s) p q

abbrev pub invariant-loop-x : goal.invariant-loop-x
invariant-loop-x l = ArcsOf l.t l.r l.x-iterator × Followed l.t l.r l.x-iterator.from l.top l.m l.initial.arcs l.arcs
