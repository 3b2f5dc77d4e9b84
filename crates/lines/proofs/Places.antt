-- Where steps from the beginning can lead, and what is left to print at a place. Assumes nothing.
use Prim.Native.Nat.{ℕ, ◌+◌, ◌≤◌, ◌<◌}
use native.Mathlib.Omega.{arith}
use mathlib.Core.Path.{◌≡◌}
use mathlib.Core.Bool.{true, false, not, cond}
use mathlib.Core.List.{List, []}
use borrow.Author.Tests.{le-leb, eq-eqb, ne_eqb}
use lib.Dec.{eqb}
use lib.ListN.{length, drop}
use Rattle.letters.specs.Lists.{lines_of}
use Rattle.rows.specs.Table.{Table, room}
use Rattle.rows.specs.Words.{lists}
use Rattle.rows.specs.Rules.{sound}
use Rattle.lines.specs.declared.steps.Place.{Place}
use Rattle.lines.specs.Steps.{desk_numbers, most_input, most_output, ready}
use Rattle.lines.specs.Sessions.{printed, prints}
use Rattle.lines.proofs.Following.{Held}

-- ---- where a step from the beginning can lead

pub record Stands (t : Table) (input : List ℕ) (place : Place) : Type 0 where
  pub long : length t ≡ desk_numbers
  pub fine : 0 < place.line → sound t ≡ true
  pub short : 0 < place.line → length input ≤ most_input
  pub numbered : place.line ≤ place.at + 1
  pub bounded : place.line ≤ most_input + 1
  -- no list has more bytes than were read
  pub held : 0 < place.line → Held place.at (lists t)

-- before the first line, and when it is over
pub stands-apart : (t : Table) (input : List ℕ) (place : Place) → length t ≡ desk_numbers → place.line ≡ 0 → Stands t input place
stands-apart t input place long line =
    record {
      long = long;
      fine = λ h. absurd (omega arith);
      short = λ h. absurd (omega arith);
      numbered = omega arith;
      bounded = omega arith;
      held = λ h. absurd (omega arith);
    }

-- a step can be taken unless it is over
pub stands-ready : (t : Table) (input : List ℕ) (place : Place) (size : ℕ) → Stands t input place → most_output ≤ size
    → ready t place size ≡ not place.over
stands-ready t input place size s h =
    rw (
      eq-eqb (length t) desk_numbers s.long,
      le-leb most_output size h,
      le-leb place.line (most_input + 1) s.bounded,
    )

-- ---- what is left to print

abbrev pub left : Table → List ℕ → Place → List ℕ
left t input place =
    cond place.over []
    (cond (eqb place.line 0) (prints input)
    (printed (room t) (lists t) place.line (lines_of (drop place.at input))))

module _ (t : Table) (input : List ℕ) (place : Place) (going : place.over ≡ false) where
  pub left-first : place.line ≡ 0 → left t input place ≡ prints input
  left-first none = rw (going, none)

  pub left-lines : 0 < place.line → left t input place ≡ printed (room t) (lists t) place.line (lines_of (drop place.at input))
  left-lines some = rw (going, ne_eqb place.line 0 (λ e. omega arith))
