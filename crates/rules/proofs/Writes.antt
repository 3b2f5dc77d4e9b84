-- What the tests leave behind: an array that was zeros says how many arcs lead to each row, and the index has the keys. Assumes nothing.
use Prim.Native.Nat.{ℕ, ◌≤◌}
use mathlib.Core.Path.{◌≡◌}
use mathlib.Core.Bool.{Bool, false, false≢true}
use mathlib.Core.List.{List}
use native.Mathlib.Omega.{arith}
use lib.ListN.{length, replicate, length-replicate}
use Rattle.rows.specs.Table.{Table, width, row_count}
use Rattle.rows.proofs.Zeros.{zero-cell}
use Rattle.index.specs.Arcs.{arcs_to, Adds}
use Rattle.index.specs.Index.{Keyed}
use Rattle.rules.specs.Counted.{Tested, KeyedIf, ArcsCounted}

-- a test that fails says nothing of the arcs that the array counts
pub not-passed : {rule : Bool} {more : ℕ → ℕ} {p q : List ℕ} → false ≡ rule → length q ≡ length p → Tested rule more p q false
not-passed e long = record { says = e; long = long; counts = λ d. absurd (false≢true d) }

pub counted-from-zeros : (t : Table) {n : ℕ} {p : List ℕ} → width ≤ length t → row_count t ≤ n
    → Adds (λ s. arcs_to t s) (replicate n 0) p → ArcsCounted t p
counted-from-zeros t {n} whole inside d =
    record {
      head = whole;
      counts = record {
        long = rw (d.long, length-replicate {A = ℕ}) inside;
        counts = λ s h below. omega (arith, d.adds s h, zero-cell n s);
      };
    }

-- the keys of the rows, after a test that passed or not
pub keyed-if : {b : Bool} {t : Table} {n : ℕ} {index : List ℕ} → Keyed t n index → KeyedIf b t n index
keyed-if k = record { long = k.keys.long; passed = λ e. k }
