-- `write_list` meets its promise: without a start there is no name, and from a start no letter is walked yet, so the lines from it are those of the
-- list. Assumes nothing.
use native.Mathlib.Omega.{arith}
use mathlib.Core.Path.{◌≡◌, refl, sym, ◌∙◌}
use Rattle.letters.specs.Lists.{lines}
use Rattle.rows.specs.Table.{start}
use Rattle.rows.proofs.Facts.{no_row}
use Rattle.rows.proofs.Words.{words-none}
use Rattle.rows.proofs.Books.{start-named}
use Rattle.listing.proofs.Behind.{behind-none}
use Rattle.listing.proofs.lists.write_list.Goals as goal

pub returns-then-r-eq0 : goal.returns-then-r-eq0
unfolding lines
returns-then-r-eq0 c =
    let args = c.args in
    let t = args.t.now in
    let none : start t args.m ≡ 0 = sym c.start-r.ensures ∙ c.if-r-eq0.true in
    rw (words-none t (start t args.m) (no_row t (start t args.m) none)) (record { long = refl; buffer = refl })

pub write_from-requires : goal.write_from-requires
write_from-requires c =
    let (tidy, mission, room) = c.requires in
    let used = start-named c.args.t.now tidy c.args.m mission (omega (arith, c.start-r.ensures)) in
    rw (c.start-r.ensures, c.none-word.ensures) (tidy, used, omega (arith, tidy.low _ used), rw behind-none room)

pub returns : goal.returns
returns c =
    record { long = (rw (c.start-r.ensures, c.none-word.ensures, behind-none) at c.write_from.ensures.long); buffer = (rw (c.start-r.ensures, c.none-word.ensures, behind-none) at c.write_from.ensures.buffer) }
