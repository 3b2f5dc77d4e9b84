-- `book_check` meets its promise: what it returns is the reply of `check`. Assumes nothing.
use Rattle.exports.proofs.book_check.Goals as goal

pub returns : goal.returns
returns c = rw c.packed_answer.ensures c.check.ensures
