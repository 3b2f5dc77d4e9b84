-- `book_load_two` meets its promise: what it returns is the reply of `load_two`. Assumes nothing.
use Rattle.exports.proofs.book_load_two.Goals as goal

pub returns : goal.returns
returns c = rw c.packed_answer.ensures c.load_two.ensures
