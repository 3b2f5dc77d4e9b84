-- `book_add` meets its promise: what it returns is the reply of `add`. Assumes nothing.
use Rattle.exports.proofs.book_add.Goals as goal

pub returns : goal.returns
returns c = rw c.packed_answer.ensures c.add.ensures
