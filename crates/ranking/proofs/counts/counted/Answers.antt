-- `counted` meets its promise: in a sound book the number of names, cut above 60,000, says whether the list has over 60,000, and else how many.
-- Assumes nothing.
use native.Mathlib.Omega.{arith}
use mathlib.Core.Path.{refl}
use Rattle.rows.proofs.Rules.{sound-facts}
use Rattle.rows.proofs.Books.{list-names}
use Rattle.ranking.proofs.counts.counted.Goals as goal

pub count_names-names-requires : goal.count_names-names-requires
count_names-names-requires c =
    let (s, h, zeros) = c.requires in
    ((sound-facts _ s).tidy, h, zeros)

pub returns-then-names-gt-MOST_NAMES-clause-over : goal.returns-then-names-gt-MOST_NAMES-clause-over
returns-then-names-gt-MOST_NAMES-clause-over c =
    (refl, rw (list-names c.args.t.now c.args.m c.requires.1) (omega (arith, c.count_names-names.ensures.number)))

pub returns-clause-number : goal.returns-clause-number
returns-clause-number c =
    rw (list-names c.args.t.now c.args.m c.requires.1) (omega (arith, c.count_names-names.ensures.number))

pub returns-clause-few : goal.returns-clause-few
returns-clause-few c =
    rw (list-names c.args.t.now c.args.m c.requires.1) (omega (arith, c.count_names-names.ensures.number))
