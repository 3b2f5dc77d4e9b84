-- `book_count` meets its promise: what it returns is the reply of `count`. Assumes nothing.
use Rattle.exports.proofs.book_count.Goals as goal

pub returns : goal.returns
returns c = rw c.packed_answer.ensures c.count.ensures
