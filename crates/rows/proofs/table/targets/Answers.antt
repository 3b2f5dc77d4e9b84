-- `targets` meets its promise: the part is as long as there are letters. Assumes nothing.
use Prim.Native.Nat.{ℕ, ◌+◌, ◌-◌, ◌*◌}
use mathlib.Core.Path.{◌≡◌, ap}
use native.Mathlib.Omega.{arith}
use lib.ListN.{take, drop}
use Rattle.letters.specs.Letters.{letters}
use Rattle.rows.specs.Table.{width}
use Rattle.rows.proofs.table.targets.Goals as goal

part : (n : ℕ) → (n + letters) - n ≡ letters
part n = omega arith

pub returns : goal.returns
returns c =
    let first = c.args.r * width + 2 in
    ap (λ (n : ℕ). take n (drop first c.args.t.now)) (part first)
