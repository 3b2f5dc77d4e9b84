-- `book_clear` meets its promise: what it returns is the reply of `clear`. Assumes nothing.
use Rattle.exports.proofs.book_clear.Goals as goal

pub returns : goal.returns
returns c = rw c.packed_answer.ensures c.clear.ensures
