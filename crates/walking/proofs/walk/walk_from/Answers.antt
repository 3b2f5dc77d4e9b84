use Prim.Native.Nat.{ℕ, ◌<◌}
use native.Mathlib.Omega.{arith}
use mathlib.Core.Path.{◌≡◌, sym, ◌∙◌, ap}
use mathlib.Core.Bool.{true, false}
use mathlib.Core.List.{List, [], ◌∷◌}
use lib.ListN.{length, get_or}
use Rattle.std.proofs.lemmas.List.{nil_from_length}
use Rattle.letters.specs.Words.{rest}
use Rattle.letters.proofs.Words.{all_left}
use Rattle.rows.specs.Table.{Table, is_row}
use Rattle.walking.specs.Ways.{leads_to, way}
use Rattle.walking.proofs.walk.walk_from.Goals as goal
use Rattle.walking.proofs.walk.walk_from.Goals.{After-is_row}

-- a step goes on with the rest from where the first byte leads, or stops there
way_on : (t : Table) (r : ℕ) (bytes : List ℕ) → 0 < length bytes → is_row t (leads_to t r (get_or bytes 0 0)) ≡ true
    → way t bytes r ≡ way t (rest bytes) (leads_to t r (get_or bytes 0 0))
unfolding way
way_on t r [] some on = absurd (omega arith)
way_on t r (b ∷ bytes) some on = rw (on, all_left b bytes)

way-stops : (t : Table) (r : ℕ) (bytes : List ℕ) → 0 < length bytes → is_row t (leads_to t r (get_or bytes 0 0)) ≡ false
    → way t bytes r ≡ record { row = 0; left = length bytes }
unfolding way
way-stops t r [] some stops = absurd (omega arith)
way-stops t r (b ∷ bytes) some stops = rw stops

-- is what that byte leads to a row?
on : (c : After-is_row) → is_row c.args.t.now (leads_to c.args.t.now c.loop-left.row (get_or c.loop-left.left.now 0 0)) ≡ c.is_row.result
on c = ap (λ (n : ℕ). is_row c.args.t.now n) (sym c.leads_to-next.ensures) ∙ sym c.is_row.ensures

pub returns-then-not-is_row : goal.returns-then-not-is_row
returns-then-not-is_row c =
    let here = (goal.at.returns-then-not-is_row c).After-is_row in
    sym (c.loop-left.invariant.1 ∙ way-stops _ _ c.loop-left.left.now (omega arith) (on here ∙ c.if-not-is_row.true))

pub loop-left-preserved : goal.loop-left-preserved
loop-left-preserved c =
    let here = (goal.at.loop-left-preserved c).After-is_row in
    let row = c.if-not-is_row.false in
    let step = way_on c.args.t.now c.loop-left.row c.loop-left.left.now (omega arith) (on here ∙ row) in
    (sym c.is_row.ensures ∙ row, c.loop-left.invariant.1 ∙ (rw (← c.leads_to-next.ensures) at step))

pub returns : goal.returns
unfolding way
returns c = sym (c.loop-left.invariant.1 ∙ rw (nil_from_length c.loop-left.left.now (omega arith)))
