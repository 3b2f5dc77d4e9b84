-- `count_names` meets its promise: in an array of zeros no row is counted, and counting goes from the mission's start. Assumes nothing.
use Rattle.rows.proofs.Books.{start-named}
use Rattle.counting.proofs.Filling.{zeros-numbered}
use Rattle.counting.proofs.counts.count_names.Goals as goal

pub count_from-requires : goal.count_from-requires
count_from-requires c =
    let (tidy, mission, zeros) = c.requires in
    rw (zeros, c.start-r.ensures) (zeros-numbered _ tidy tidy.most, start-named c.args.t.now tidy c.args.m mission)
