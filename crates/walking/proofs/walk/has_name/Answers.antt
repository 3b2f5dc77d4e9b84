-- `has_name` meets its promise: the name is letters, so the walk ends where its word leads, and the mark there decides. Assumes nothing.
use Prim.Native.Nat.{ℕ}
use mathlib.Core.Path.{◌∙◌, ap}
use Rattle.rows.specs.Table.{start, ends}
use Rattle.walking.proofs.Ways.{way-ends}
use Rattle.walking.proofs.walk.has_name.Goals as goal

pub returns : goal.returns
returns c =
    let args = c.args in
    let end = rw (← c.walk_list-way.ensures) at (way-ends args.t.now args.name.now (start args.t.now args.m)) in
    c.ends.ensures ∙ ap (λ (n : ℕ). ends args.t.now n) (end.row c.requires.1)
