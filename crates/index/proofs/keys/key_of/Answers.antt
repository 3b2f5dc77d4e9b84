use Prim.Native.Nat.{ℕ, ◌+◌}
use mathlib.Core.Path.{◌≡◌, ◌∙◌}
use native.Mathlib.Numerals.{add-one}
use native.Mathlib.Omega.{arith}
use lib.ListN.{get_or}
use Rattle.rows.proofs.Skipping.{past}
use Rattle.index.specs.Buckets.{mix}
use Rattle.index.proofs.Buckets.{mix-none, mix-more, mix-zero}
use Rattle.index.proofs.keys.key_of.Goals as goal

pub loop-x-init : goal.loop-x-init
loop-x-init c =
    let targets : ℕ → ℕ = λ y. get_or c.args.targets.now y 0 in
    let (e, small) = c.mixed_mark-m.ensures in
    let skipped = c.next_target-x.ensures in (
      skipped.to,
      omega arith,
      past targets (λ x. c.mixed_mark-m.result ≡ mix c.args.mark targets x)
          (λ x none e. e ∙ rw (mix-zero c.args.mark targets x none)) 0 _ skipped.before.from skipped.before.zeros
          (e ∙ mix-none c.args.mark _ targets),
    )

pub loop-x-preserved : goal.loop-x-preserved
loop-x-preserved c =
    let l = c.loop-x in
    let targets : ℕ → ℕ = λ y. get_or c.args.targets.now y 0 in
    let (e, small) = c.mixed-m.ensures in
    let skipped = c.next_target-x-in-loop-x.ensures in (
      skipped.to,
      omega (arith, skipped.before.from),
      past targets (λ x. c.mixed-m.result ≡ mix c.args.mark targets x)
          (λ x none e. e ∙ rw (mix-zero c.args.mark targets x none)) (l.x + 1) _ skipped.before.from skipped.before.zeros
          (rw add-one (e ∙ rw l.invariant.2 (mix-more c.args.mark targets l.x))),
    )
