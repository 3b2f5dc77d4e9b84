-- Steps end: each step that is not over leaves a line less. Assumes nothing.
use Prim.Native.Nat.{ℕ, suc, ◌+◌, ◌-◌, ◌<◌}
use native.Mathlib.Omega.{arith}
use mathlib.Core.Path.{◌≡◌, refl, ◌∙◌, ap}
use mathlib.Core.Bool.{false, cond}
use mathlib.Core.List.{List}
use borrow.Author.Tests.{ne_eqb}
use lib.Dec.{eqb}
use lib.ListN.{length}
use Rattle.rows.specs.Table.{Table}
use Rattle.lines.specs.declared.steps.Place.{Place}
use Rattle.lines.specs.declared.steps.Stage.TheVariants.{First, Line}
use Rattle.lines.specs.Steps.{first_line, over_after, stage_next, Does, Steps}
use Rattle.lines.proofs.Stages.{Lines, by-stage}

-- at most one for each byte that is left, and one for the end; and the one that empties the table
abbrev pub steps_left : List ℕ → Place → ℕ
steps_left input place = cond place.over 0 (suc (cond (eqb place.line 0) (length input + 1) (length input - place.at)))

module _ (input : List ℕ) (place : Place) (going : place.over ≡ false) where
  some_left : 0 < steps_left input place
  some_left = rw going (omega arith)

  first-left : place.line ≡ 0 → steps_left input place ≡ suc (length input + 1)
  first-left none = rw (going, none)

  lines_left : 0 < place.line → steps_left input place ≡ suc (length input - place.at)
  lines_left some = rw (going, ne_eqb place.line 0 (λ e. omega arith))

less_by : {x y a b : ℕ} → x ≡ suc a → y ≡ suc b → a < b → x < y
less_by e f h = omega arith

module _ (t after : Table) (input : List ℕ) (place : Place) (before filled : List ℕ) (next : Place) (going : place.over ≡ false) where
  abbrev Less : Type 0
  Less = steps_left input next < steps_left input place

  less-over : (k : ℕ) → next ≡ over_after k → Less
  less-over k e = rw e (some_left input place going)

  first : place.line ≡ 0 → Does First t after input place before filled next → Less
  first none p = less_by (ap (steps_left input) p.next ∙ lines_left input first_line refl (omega arith)) (first-left input place going none) (omega arith)

  line : Lines t input place (length before) → place.at < length input → Does Line t after input place before filled next → Less
  line l h p =
      less_by (ap (steps_left input) p.next ∙ lines_left input (stage_next t input place (length before) Line) refl (omega arith))
      (lines_left input place going l.numbered) (omega arith)

  less : Steps t after input place before filled next → Less
  less =
      by-stage t input place (length before) (λ s. Does s t after input place before filled next → Less)
      (λ r p. less-over 0 p.next)
      (λ r l p. less-over _ p.next)
      (λ r s none p. first none p)
      (λ l h p. less-over 0 p.next)
      (λ l h p. line l h p)

-- Each step from a place that is not over leaves fewer.
pub step_less : {t after : Table} {input : List ℕ} {place : Place} {before filled : List ℕ} {next : Place}
    → Steps t after input place before filled next → place.over ≡ false → steps_left input next < steps_left input place
step_less {t} {after} {input} {place} {before} {filled} {next} p going = less t after input place before filled next going p
