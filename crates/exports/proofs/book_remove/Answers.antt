-- `book_remove` meets its promise: what it returns is the reply of `remove`. Assumes nothing.
use Rattle.exports.proofs.book_remove.Goals as goal

pub returns : goal.returns
returns c = rw c.packed_answer.ensures c.remove.ensures
