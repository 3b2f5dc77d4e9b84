use Prim.Native.Nat.{◌+◌, ◌<◌}
use mathlib.Core.Path.{◌≡◌, refl, ◌∙◌}
use native.Mathlib.Numerals.{add-one}
use lib.ListN.{get_or}
use Rattle.letters.specs.Below.{all_below}
use Rattle.rows.proofs.Skipping.{or-none}
use borrow.Author.Rules.{rules}
use Rattle.std.specs.List.{between}
use Rattle.std.proofs.lemmas.List.Edits.{get_or-between}
use Rattle.rows.proofs.skips.eight_zeros.Goals as goal

pub loop-n-init : goal.loop-n-init
unfolding all_below
loop-n-init c = refl

pub loop-n-preserved : goal.loop-n-preserved
unfolding all_below
loop-n-preserved c =
    let l = c.loop-n in
    let s = c.args.s.now in
    let a = c.args.a in
    let i = l.n-index in
    let inside : a + i < a + 8 = search rules in
    let here : get_or (between a (a + 8) s) i 0 ≡ get_or s (a + i) 0 = get_or-between s a (a + 8) i 0 inside in
    rw (here, add-one) (or-none l.all (get_or s (a + i) 0) ∙ rw l.invariant refl)
