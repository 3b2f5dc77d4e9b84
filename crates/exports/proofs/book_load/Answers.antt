-- `book_load` meets its promise: what it returns is the reply of `load`. Assumes nothing.
use Rattle.exports.proofs.book_load.Goals as goal

pub returns : goal.returns
returns c = rw c.packed_answer.ensures c.load.ensures
