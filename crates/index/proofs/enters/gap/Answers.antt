use Prim.Native.Nat.{◌<◌}
use mathlib.Core.Path.{◌≡◌}
use native.Mathlib.Omega.{arith}
use lib.ListN.{get_or}
use Rattle.index.proofs.Entering.{above-inside, above-falls, above-next}
use Rattle.index.proofs.enters.gap.Goals as goal
use Rattle.index.proofs.enters.gap.Goals.{After-last_of-place, At-loop-place}

pub last_of-requires : goal.last_of-requires
last_of-requires c = above-inside c.requires.0 c.loop-place.invariant c.requires.1

-- what the second call of `last_of` gives stands at the place, and is behind `r`
next : (c : After-last_of-place) →
    let args = c.args in
    let row = get_or args.index.now c.loop-place.place 0 in
    (c.last_of-place.result ≡ row) × (args.r < row)
next c = (c.last_of-place.ensures, omega arith)

pub loop-place-smaller : goal.loop-place-smaller
loop-place-smaller c =
    let (e, h) = next c in
    rw e (above-falls c.requires.0 c.loop-place.invariant c.requires.1 h)

pub loop-place-preserved : goal.loop-place-preserved
loop-place-preserved c =
    let (e, h) = next c in
    rw e (above-next c.requires.0 c.loop-place.invariant h)
