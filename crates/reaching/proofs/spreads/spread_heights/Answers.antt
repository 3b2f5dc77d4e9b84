use mathlib.Core.Path.{◌≡◌}
use native.Mathlib.Omega.{arith}
use Rattle.reaching.proofs.Spreading.{all-spread}
use Rattle.reaching.proofs.spreads.spread_heights.Goals as goal

pub returns : goal.returns
returns c =
    let all : c.loop-h.h ≡ 0 = omega arith in
    all-spread c.requires.0 c.requires.1 (rw all at c.loop-h.invariant)
