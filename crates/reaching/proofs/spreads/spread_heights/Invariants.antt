-- `spread_heights` meets its promise. The loop's invariant: the rows above height `h` have had their turn. Assumes nothing.
use Rattle.letters.specs.Names.{longest}
use Rattle.rows.specs.Table.{most_rows}
use Rattle.reaching.specs.Marks.{Spreads, turn}
use Rattle.reaching.proofs.spreads.spread_heights.Given as goal

abbrev pub invariant-loop-h : goal.invariant-loop-h
invariant-loop-h l = Spreads l.t (turn longest most_rows) (turn l.h most_rows) l.initial.keep l.keep
