-- The keys stand behind the chains, so a key that is kept leaves the chains. Assumes nothing.
use Prim.Native.Nat.{ℕ, suc, ◌<◌}
use mathlib.Core.Path.{◌∙◌}
use mathlib.Core.List.{List}
use native.Mathlib.Decide.{ℕ_discrete}
use native.Mathlib.Omega.{arith}
use lib.ListN.{set, replicate, length-set, length-replicate}
use lib.Seq.{get_or-set_same, get_or-set_other}
use Rattle.rows.specs.Table.{Table, most_rows}
use Rattle.rows.specs.Tidy.{Used}
use Rattle.rows.proofs.Zeros.{zero-cell}
use Rattle.index.specs.Buckets.{row_key}
use Rattle.index.specs.Index.{key_place, index_length, Keyed}

-- an array of zeros
pub keyed-none : (t : Table) → Keyed t 0 (replicate index_length 0)
keyed-none t =
    record {
      keys = record { long = length-replicate {A = ℕ} index_length 0; at = λ r h u. absurd (omega arith) };
      blank = λ i h. zero-cell index_length i;
    }

-- a row that is not in use has no key
pub keyed-skip : {t : Table} {r : ℕ} {index : List ℕ} → Keyed t r index → (Used t r → ⊥) → Keyed t (suc r) index
keyed-skip {t} {r} k free =
    record {
      keys = record {
        long = k.keys.long;
        at = λ q h u. elim (ℕ_discrete q r) [ yes d ↦ absurd (free (rw d at u)) | no d ↦ k.keys.at q (omega arith) u ];
      };
      blank = k.blank;
    }

-- the key of one row more
pub keyed-more : (t : Table) (r : ℕ) (index : List ℕ) → Keyed t r index → r < most_rows → Keyed t (suc r) (set index (key_place r) (row_key t r))
keyed-more t r index k inside =
    record {
      keys = record {
        long = length-set index (key_place r) (row_key t r) ∙ k.keys.long;
        at = λ q h u.
            elim (ℕ_discrete q r) [
              | yes d ↦ rw (d, get_or-set_same index (key_place r) (row_key t r) 0 (omega (arith, k.keys.long)))
              | no d ↦
                  rw (get_or-set_other index (key_place r) (key_place q) (row_key t r) 0 (λ e. d (omega arith)))
                  (k.keys.at q (omega arith) u)
            ];
      };
      blank = λ i h. rw (get_or-set_other index (key_place r) i (row_key t r) 0 (λ e. omega arith)) (k.blank i h);
    }
