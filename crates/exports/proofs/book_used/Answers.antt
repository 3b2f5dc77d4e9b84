-- `book_used` meets its promise: what it returns is the reply of `used`. Assumes nothing.
use Rattle.exports.proofs.book_used.Goals as goal

pub returns : goal.returns
returns c = rw c.packed_answer.ensures c.used.ensures
