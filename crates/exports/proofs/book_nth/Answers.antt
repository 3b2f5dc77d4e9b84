-- `book_nth` meets its promise: what it returns is the reply of `nth`. Assumes nothing.
use Rattle.exports.proofs.book_nth.Goals as goal

pub returns : goal.returns
returns c = rw c.packed_answer.ensures c.nth.ensures
