-- A table is an automaton of source document 002 on its rows in use. Assumes nothing.
use Rattle.std.specs.Prelude.{eqb}
use Rattle.sets.specs.Below.{those}
use Rattle.sets.specs.Automata.{Automaton}
use Rattle.rows.specs.Table.{Table, row_count, starts, mark, target, in_use}

abbrev pub automaton : Table → Automaton
automaton t =
    record {
      states = those (row_count t) (λ r. in_use t r);
      starts = starts t;
      final = λ r. eqb (mark t r) 2;
      arc = λ r x. target t r x;
    }
