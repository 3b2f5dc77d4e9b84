-- `book_empty` meets its promise: what it returns is the reply of `empty`. Assumes nothing.
use Rattle.exports.proofs.book_empty.Goals as goal

pub returns : goal.returns
returns c = rw c.packed_answer.ensures c.empty.ensures
