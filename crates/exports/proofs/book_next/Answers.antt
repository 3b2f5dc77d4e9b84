-- `book_next` meets its promise: what it returns and puts is the reply of `next`; a number of letters has 32 bits. Assumes nothing.
use native.Mathlib.Omega.{arith}
use mathlib.Core.Path.{◌≡◌, ◌∙◌}
use Rattle.answers.specs.Replies.{next_reply}
use Rattle.exports.specs.Packed.{unpacked_next}
use Rattle.exports.proofs.Tight.{packed-apart-next}
use Rattle.exports.proofs.book_next.Goals as goal

pub returns : goal.returns
returns c =
    let reply = c.from-reply.result in
    let same : unpacked_next reply.value c.packed.result ≡ next_reply c.next.result =
    rw c.packed.ensures (packed-apart-next reply.value reply.number reply.second (omega arith) ∙ c.from-reply.ensures) in
    rw same c.next.ensures
