-- `is_pointed` meets its promise: a free row passes, and the array says how many arcs lead to a row in use; if none does, it has to be a start.
-- Assumes nothing.
use Prim.Native.Nat.{ℕ}
use mathlib.Core.Path.{◌≡◌, sym, ◌∙◌}
use mathlib.Core.Bool.{true, false, or-true, or-false}
use mathlib.Core.List.{List}
use native.Mathlib.Omega.{arith}
use lib.ListN.{get_or}
use Rattle.rows.specs.Table.{Table, in_use}
use Rattle.rows.specs.Rules.{is_target}
use Rattle.rows.specs.Tidy.{Used}
use Rattle.index.specs.Arcs.{arcs_to}
use Rattle.rules.specs.Counted.{ArcsCounted}
use Rattle.rows.proofs.Facts.{in-use-used}
use Rattle.rules.proofs.Counting.{led-to, not-led-to}
use Rattle.rules.proofs.pointed.is_pointed.Goals as goal
use Rattle.rules.proofs.pointed.is_pointed.Goals.{Else-not-in_use}

-- a row is a target where the array does not say 0 of it
module _ {t : Table} {arcs : List ℕ} (counted : ArcsCounted t arcs) {r : ℕ} (u : Used t r) where
  said : get_or arcs r 0 ≡ arcs_to t r
  said = counted.counts.counts r u.positive u.inside

  said-some : (get_or arcs r 0 ≡ 0 → ⊥) → is_target t r ≡ true
  said-some some = led-to t r (omega (arith, said))

  said-none : get_or arcs r 0 ≡ 0 → is_target t r ≡ false
  said-none none = not-led-to t r (sym said ∙ none)

used : (c : Else-not-in_use) → in_use c.args.t.now c.args.r ≡ true
used c = sym c.in_use.ensures ∙ c.if-not-in_use.false

inside : (c : Else-not-in_use) → Used c.args.t.now c.args.r
inside c = in-use-used _ _ (used c)

pub returns-then-arcs-r-ne0 : goal.returns-then-arcs-r-ne0
returns-then-arcs-r-ne0 c =
    rw (used (goal.at.returns-then-arcs-r-ne0 c).Else-not-in_use, said-some c.requires (inside (goal.at.returns-then-arcs-r-ne0 c).Else-not-in_use) (λ e. omega arith), or-true)

pub returns : goal.returns
returns c =
    rw (used (goal.at.returns c).Else-not-in_use, said-none c.requires (inside (goal.at.returns c).Else-not-in_use) (omega arith), or-false)
    c.is_start.ensures
