-- `packed_answer` meets its promise: in each branch the case is known. A value has 32 bits. Assumes nothing.
use native.Mathlib.Omega.{arith}
use Rattle.exports.proofs.Tight.{packed-apart}
use Rattle.exports.proofs.packed_answer.Goals as goal

pub returns-in-Ok : goal.returns-in-Ok
returns-in-Ok c = rw (c.in-Ok.is, c.packed.ensures) (packed-apart 0 0 _ (omega arith))

pub returns-in-Err : goal.returns-in-Err
returns-in-Err c =
    rw (c.in-Err.is, c.packed-in-Err.ensures, c.refusal_number.ensures) (packed-apart 0 _ 0 (omega arith))
