-- `sound_indexed` meets its promise: a sound book is one that passes the tests one after the other, which the check sees for itself. What is left is
-- what they ask: the keys are in the index where rule 3 has passed, the arcs that it has counted are kept behind them, and the rows are chained before
-- rule 6 is asked. Assumes nothing.
use Prim.Native.Nat.{◌≤◌, ◌<◌}
use mathlib.Core.Path.{◌≡◌, sym, ◌∙◌}
use mathlib.Core.Bool.{true}
use native.Mathlib.Omega.{arith}
use borrow.Author.Rules.{rules}
use lib.ListN.{length}
use Rattle.rows.specs.Table.{Table, width, row_count, most_rows, length_ok}
use Rattle.rows.proofs.Rules.{length-facts}
use Rattle.rows.proofs.Zeros.{zero-cell}
use Rattle.index.proofs.Keeping.{keyed-none}
use Rattle.rules.proofs.Writes.{counted-from-zeros}
use Rattle.rules.specs.Counted.{ArcsCounted}
use Rattle.rules.proofs.Counting.{keyed-kept, arcs-kept}
use Rattle.rules.proofs.book.sound_indexed.Goals as goal
use Rattle.rules.proofs.book.sound_indexed.Goals.{Else-not-length_ok, Else-not-rule3}

whole-rows : (t : Table) → length_ok t ≡ true → (width ≤ length t) × (0 < row_count t) × (row_count t ≤ most_rows)
whole-rows t e = let (whole, least, most) = length-facts t e in (omega arith, omega arith, most)

rows_fit : (c : Else-not-length_ok) →
    let t = c.args.t.now in
    (width ≤ length t) × (0 < row_count t) × (row_count t ≤ most_rows)
rows_fit c = whole-rows c.args.t.now (sym c.length_ok.ensures ∙ c.if-not-length_ok.false)

-- where rule 3 has passed, the arcs are counted
counted : (c : Else-not-rule3) → ArcsCounted c.args.t.now c.rule3.new.arcs
counted c =
    let (whole, _, inside) = rows_fit (goal.at.Else-not-rule3 c).Else-not-length_ok in
    counted-from-zeros c.args.t.now whole inside (c.rule3.ensures.tested.counts c.if-not-rule3.false)

pub rule1-requires : goal.rule1-requires
rule1-requires c = (rows_fit c).0

pub rule3-requires : goal.rule3-requires
rule3-requires c =
    let (_, _, most) = rows_fit (goal.at.rule3-requires c).Else-not-length_ok in
    (most, most, rw c.requires (keyed-none c.args.t.now), λ s h. omega (arith, zero-cell most_rows s))

pub rule5-requires : goal.rule5-requires
rule5-requires c = counted (goal.at.rule5-requires c).Else-not-rule3

pub keep_arcs-requires : goal.keep_arcs-requires
keep_arcs-requires c =
    let (_, _, inside) = rows_fit (goal.at.keep_arcs-requires c).Else-not-length_ok in
    let rows = c.row_count.ensures in
    (omega (arith, rows, (counted (goal.at.keep_arcs-requires c).Else-not-rule3).counts.long), omega (arith, rows), search rules)

pub index_rows-requires : goal.index_rows-requires
index_rows-requires c =
    let (_, some, inside) = rows_fit (goal.at.index_rows-requires c).Else-not-length_ok in (
      some,
      inside,
      keyed-kept inside (c.rule3.ensures.keyed.passed c.if-not-rule3.false) c.keep_arcs.ensures,
      arcs-kept (counted (goal.at.index_rows-requires c).Else-not-rule3) c.keep_arcs.ensures c.row_count.ensures,
    )
