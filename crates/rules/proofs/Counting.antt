-- What the counted arcs say: a row is a target of a row in use exactly if an arc leads to it. Kept in the index, they leave the keys as they were,
-- and the index then says how many lead to each row. Assumes nothing.
use Prim.Native.Nat.{ℕ, ◌≤◌, ◌<◌}
use mathlib.Core.Path.{◌≡◌, ◌∙◌}
use mathlib.Core.Bool.{Bool, true, false, cond, ◌&&◌, and-eq-true_iff}
use mathlib.Core.List.{List}
use native.Mathlib.Omega.{arith}
use borrow.Author.Tests.{eqb-true, eq-eqb}
use Rattle.letters.specs.Letters.{letters}
use Rattle.sets.proofs.Below.{some_below_lem, below-some}
use Rattle.sets.proofs.Membership.{fails}
use Rattle.rows.specs.Table.{Table, row_count, most_rows, target, in_use}
use Rattle.rows.specs.Rules.{points_at, is_target}
use Rattle.index.specs.Arcs.{arcs_from, arcs_of, arcs_to}
use Rattle.index.specs.Index.{ArcsAt, Keyed, Keeps}
use Rattle.index.proofs.Arcs.{arc-counted, counted-arc, row-counted, counted-row}
use Rattle.rules.specs.Counted.{ArcsCounted}

module _ (t : Table) (s : ℕ) where
  -- a row in use with this target has an arc that is counted, and a row that has one is in use and has this target
  of-target : (r : ℕ) → (in_use t r && points_at t r s) ≡ true → 0 < arcs_of t r s
  of-target r e =
      let (used, points) = (and-eq-true_iff (in_use t r) (points_at t r s)).0 e in
      let (x, below, same) = some_below_lem _ letters points in
      rw used (arc-counted t r x s below (eqb-true (target t r x) s same))

  target-of : (r : ℕ) → 0 < arcs_of t r s → (in_use t r && points_at t r s) ≡ true
  target-of r some = go (in_use t r) some
    where
      go : (b : Bool) → 0 < cond b (arcs_from t r letters s) 0 → (b && points_at t r s) ≡ true
      go true h =
          let (x, below, same) = counted-arc t r s h in
          below-some _ letters x below (eq-eqb (target t r x) s same)
      go false h = absurd (omega arith)

  -- a row that arcs lead to is a target, and one that none leads to is not
  pub led-to : 0 < arcs_to t s → is_target t s ≡ true
  led-to some = let (r, below, of) = counted-row t (row_count t) s some in below-some _ (row_count t) r below (target-of r of)

  pub not-led-to : arcs_to t s ≡ 0 → is_target t s ≡ false
  not-led-to none =
      fails (is_target t s) (λ e.
      let (r, below, points) = some_below_lem _ (row_count t) e in
      omega (arith, row-counted t (row_count t) r s below (of-target r points)))

-- the arcs are kept behind the keys, so the keys stay
pub keyed-kept : {t : Table} {n k : ℕ} {arcs before after : List ℕ} → n ≤ most_rows → Keyed t n before → Keeps arcs k before after → Keyed t n after
keyed-kept inside k kept =
    record {
      keys = record { long = kept.long ∙ k.keys.long; at = λ r h u. kept.others _ (omega arith) ∙ k.keys.at r h u };
      blank = λ i h. kept.others i (omega arith) ∙ k.blank i h;
    }

-- and the index says how many arcs lead to each row
pub arcs-kept : {t : Table} {n : ℕ} {arcs before after : List ℕ} → ArcsCounted t arcs → Keeps arcs n before after → n ≡ row_count t → ArcsAt t after
arcs-kept counted kept all s some below = kept.kept s (omega arith) ∙ counted.counts.counts s some below
