-- A table of zeros: every number is 0, so no row is in use and no start is a row. So it is a sound book, if its length is a table's, and its
-- sixteen lists are empty. Assumes nothing.
use Prim.Native.Nat.{ℕ, zero, suc, ◌*◌, ◌<◌}
use native.Mathlib.Omega.{arith}
use mathlib.Core.Path.{◌≡◌, refl, sym, ◌∙◌}
use mathlib.Core.Bool.{true}
use mathlib.Core.List.{[]}
use lib.ListN.{length, get_or, replicate, length-replicate, get_or-replicate}
use lib.Seq.{ext_get_or}
use Rattle.letters.proofs.LetterSet.{none-count}
use Rattle.sets.specs.Sets.{Words}
use Rattle.sets.proofs.Membership.{fails}
use Rattle.model.specs.Lists.{missions, empty_lists}
use Rattle.rows.specs.Table.{Table, width, row_count, length_ok, start, in_use, used_rows}
use Rattle.rows.specs.Words.{lists}
use Rattle.rows.specs.Rules.{sound}
use Rattle.rows.specs.Tidy.{Used}
use Rattle.rows.proofs.Facts.{no_row, in-use-used}
use Rattle.rows.proofs.Rules.{length-facts, facts-sound}
use Rattle.rows.proofs.Words.{words-none}
use Rattle.rows.proofs.Books.{lists-sixteen, list-names}

pub zero-cell : (n i : ℕ) → ◌≡◌ {A = ℕ} (get_or (replicate n 0) i 0) 0
zero-cell zero i = refl
zero-cell (suc n) zero = refl
zero-cell (suc n) (suc i) = zero-cell n i

module _ (n : ℕ) where
  abbrev zeros : Table
  zeros = replicate n 0

  none-used : (r : ℕ) → Used zeros r → ⊥
  none-used r u = omega (arith, u.marked, zero-cell n (r * width))

  used-none : used_rows zeros ≡ 0
  used-none = none-count (row_count zeros) _ (λ r h. fails (in_use zeros r) (λ e. none-used r (in-use-used zeros r e)))

  -- the lists of a table of zeros, whatever its length
  pub zeros-lists : lists (replicate n 0) ≡ empty_lists
  zeros-lists =
      ext_get_or [] (lists zeros) empty_lists (lists-sixteen zeros ∙ sym (length-replicate {A = Words} missions []))
      (λ m h.
      let below : m < missions = rw (lists-sixteen zeros) at h in
      list-names zeros m below
      ∙ words-none zeros (start zeros m) (no_row zeros (start zeros m) (zero-cell n m))
      ∙ sym (get_or-replicate {A = Words} missions m [] [] below))

-- zeros in the place of every number of a table are a sound book
pub zeros-sound : (t : Table) → length_ok t ≡ true → sound (replicate (length t) 0) ≡ true
zeros-sound t e =
    let (whole, least, most) = length-facts t e in
    let n = length t in
    let long : length (zeros n) ≡ length t = length-replicate n 0 in
    facts-sound (zeros n)
    (record {
      tidy =
          record {
            whole = omega arith;
            least = omega arith;
            most = omega arith;
            starts = λ m h some. absurd (omega (arith, zero-cell n m));
            rest = λ i low h. zero-cell n i;
            marks = λ r u. absurd (none-used n r u);
            zeros = λ r i some below free h. zero-cell n _;
            targets = λ r x a. absurd (none-used n r a.used);
            lower = λ r x a. absurd (none-used n r a.used);
            tight = λ r top u. absurd (none-used n r u);
            low = λ r u. absurd (none-used n r u);
            numbers39 = λ r u. absurd (none-used n r u);
            arc = λ r u. absurd (none-used n r u);
            apart = λ r s u. absurd (none-used n r u);
          };
      pointed = λ r u. absurd (none-used n r u);
      fits = omega (arith, used-none n);
    })
