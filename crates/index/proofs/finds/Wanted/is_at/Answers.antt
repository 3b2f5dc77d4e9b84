-- `is_at` meets its promise: a row with the mark and the targets has their key. Assumes nothing.
use mathlib.Core.Path.{sym, ◌∙◌}
use Rattle.sets.proofs.Membership.{fails}
use Rattle.rows.proofs.Facts.{in-use-used}
use Rattle.index.proofs.Seeking.{has_key}
use Rattle.index.proofs.finds.Wanted.is_at.Goals as goal

pub returns-then-key_at-self : goal.returns-then-key_at-self
returns-then-key_at-self c =
    let (indexed, in_use) = c.requires in
    let used = in-use-used c.args.t.now c.args.r in_use in
    let kept = c.key_at.ensures ∙ indexed.keys.at _ used.inside used in
    sym (fails _ (λ e. c.if-key_at-self.true (kept ∙ has_key c.args.t.now c.args.r _ _ _ c.args.self.keyed e)))
