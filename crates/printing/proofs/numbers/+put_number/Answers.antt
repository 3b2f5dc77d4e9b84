use Prim.Native.Nat.{ℕ, ◌/◌, ◌<◌}
use borrow.Author.Rules.{rules}
use native.Mathlib.Omega.{arith}
use lib.ListN.{length}
use Rattle.printing.specs.Decimal.{decimal}
use Rattle.printing.proofs.Buffers.{overlaid-wrote, wrote_none, wrote-byte}
use Rattle.printing.proofs.Decimal.{decimal-small, decimal_step, length-decimal-small, length-decimal-step}
use Rattle.printing.proofs.numbers.+put_number.Goals as goal

pub bounds-out-0 : goal.bounds-out-0
bounds-out-0 t c =
    let n = c.args.n in
    omega (arith, length-decimal-small n (omega arith))

pub returns-then-n-lt10 : goal.returns-then-n-lt10
returns-then-n-lt10 t c =
    let small : c.args.n < 10 = omega arith in
    let long = length-decimal-small c.args.n small in
    let all = wrote-byte c.digit.result (wrote_none c.args.out.now) (omega (arith, c.requires)) in
    rw (decimal-small c.args.n small, ← c.digit.ensures) (record { long = all.long; buffer = all.buffer })

pub put_number-long-requires : goal.put_number-long-requires
put_number-long-requires t c =
    (omega (arith, c.decreases), omega (arith, c.requires, length-decimal-step c.args.n (omega arith)))

-- the tenth leaves room for one digit more
room : (t : ℕ) → (c : goal.After-digit-2 t) → c.put_number-long.result < length c.args.out.now
room t c =
    omega (arith, c.requires, length-decimal-step c.args.n (omega arith))

pub bounds-out-long : goal.bounds-out-long
bounds-out-long t c = let inside = room t c in search rules

pub returns : goal.returns
returns t c =
    let called = c.put_number-long in
    let tenth = overlaid-wrote (decimal (c.args.n / 10)) c.args.out.now (called.ensures.long, called.ensures.buffer) in
    let all = wrote-byte c.digit-2.result tenth (room t c) in
    rw (decimal_step c.args.n (omega arith), ← c.digit-2.ensures) (record { long = all.long; buffer = all.buffer })
