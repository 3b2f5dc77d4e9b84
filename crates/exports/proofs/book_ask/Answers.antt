-- `book_ask` meets its promise: what it returns and puts is the reply of `ask`, whose value is 1 or 0. Assumes nothing.
use Prim.Native.Nat.{◌<◌}
use native.Mathlib.Omega.{arith}
use mathlib.Core.Path.{◌≡◌, ◌∙◌}
use Rattle.std.specs.Prelude.{Result, Ok, Err}
use Rattle.answers.specs.declared.cases.Asked.{Asked}
use Rattle.answers.specs.declared.cases.Asked.TheVariants.{OnList, NotOnList}
use Rattle.answers.specs.declared.cases.Refusal.{Refusal}
use Rattle.answers.specs.Replies.{ask_reply}
use Rattle.exports.specs.Packed.{radix, unpacked_with}
use Rattle.exports.proofs.Tight.{packed-apart}
use Rattle.exports.proofs.book_ask.Goals as goal
use Rattle.exports.proofs.book_ask.Goals.{After-from-reply}

small : (a : Result Asked Refusal) → (ask_reply a).value < radix
small (Ok (OnList followed)) = omega arith
small (Ok (NotOnList followed)) = omega arith
small (Err r) = omega arith

value-small : (c : After-from-reply) → c.from-reply.result.value < radix
value-small c = rw c.from-reply.ensures (small c.ask.result)

pub overflow_cast-reply : goal.overflow_cast-reply
overflow_cast-reply c = omega (arith, value-small (goal.at.overflow_cast-reply c).After-from-reply)

pub returns : goal.returns
returns c =
    let reply = c.from-reply.result in
    let same : unpacked_with reply.second c.packed.result ≡ ask_reply c.ask.result =
    rw c.packed.ensures (packed-apart reply.second reply.number reply.value (value-small (goal.at.returns c).After-from-reply) ∙ c.from-reply.ensures) in
    rw same c.ask.ensures
