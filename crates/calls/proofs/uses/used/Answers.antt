-- `used` meets its promise: its two tests are all that can refuse it, and a sound book has as many rows in use as its lists need. Assumes nothing.
use native.Mathlib.Omega.{arith}
use Rattle.std.proofs.lemmas.Grind.{common_steps}
use Rattle.model.specs.Run.{run}
use Rattle.rows.proofs.Rules.{sound-facts}
use Rattle.minimal.proofs.Theorems.{used-need}
use Rattle.admitting.proofs.Admitting.{book-admitted}
use Rattle.calls.proofs.uses.used.Goals as goal

pub overflow_cast-result : goal.overflow_cast-result
overflow_cast-result c =
    let facts = sound-facts _ (book-admitted c.args.t.now c.in_ok-admit_book.ensures) in
    omega (arith, facts.fits, facts.tidy.most, c.used_rows.ensures)

pub returns : goal.returns
unfolding run
returns c = grind (arith, common_steps, used-need c.args.t.now)
