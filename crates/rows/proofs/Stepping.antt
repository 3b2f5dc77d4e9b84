-- A loop over the arcs of a row, said of the row: what the next arc is, and that there are no more. Assumes nothing.
use Prim.Native.Nat.{ℕ}
use mathlib.Core.Path.{◌∙◌}
use Rattle.std.proofs.Common.{Some, None}
use Rattle.letters.specs.Letters.{letters}
use Rattle.rows.specs.Table.{Table}
use Rattle.rows.specs.Skips.{NextArc}
use Rattle.rows.specs.Arcs.{YieldsArc, ArcsOf, Goes}
use Rattle.rows.specs.declared.arcs.Arcs.{Arcs}

module _ {t : Table} {r : ℕ} {s e : Arcs} where
  pub goes : {x n : ℕ} → ArcsOf t r s → YieldsArc s (Some (x, n)) e → Goes t r s e x n
  goes of y =
      let (arc, from) = y.gives in
      record {
        next = rw (of.table, of.row) at arc.next;
        inside = arc.inside;
        to = rw (of.table, of.row) at arc.to;
        from = from;
        still = record { table = rw y.table of.table; row = y.row ∙ of.row };
      }

  pub gone : ArcsOf t r s → YieldsArc s None e → NextArc t r s.from letters
  gone of y = rw (of.table, of.row) at y.gives.0
