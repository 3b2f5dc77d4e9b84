-- `is_name` meets its promise: the branch has settled whether it is as long as a name. Assumes nothing.
use mathlib.Core.Path.{sym, ◌∙◌}
use Rattle.letters.specs.Names.{is_name}
use Rattle.letters.proofs.names.is_name.Goals as goal

pub returns-then-not-long_as_name : goal.returns-then-not-long_as_name
unfolding is_name
returns-then-not-long_as_name c = rw (sym c.long_as_name.ensures ∙ c.if-not-long_as_name.true)

pub returns : goal.returns
unfolding is_name
returns c =
    rw (sym c.long_as_name.ensures ∙ c.if-not-long_as_name.false) c.is_spelled.ensures
