-- `book_write` meets its promise: what it returns is the reply of `write`. Assumes nothing.
use Rattle.exports.proofs.book_write.Goals as goal

pub returns : goal.returns
returns c = rw c.packed_answer.ensures c.write.ensures
