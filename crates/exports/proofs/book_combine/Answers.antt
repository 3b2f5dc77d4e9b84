-- `book_combine` meets its promise: what it returns is the reply of `combine`. Assumes nothing.
use Rattle.exports.proofs.book_combine.Goals as goal

pub returns : goal.returns
returns c = rw c.packed_answer.ensures c.combine.ensures
