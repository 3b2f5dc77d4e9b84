-- `book_rank` meets its promise: what it returns is the reply of `rank`. Assumes nothing.
use Rattle.exports.proofs.book_rank.Goals as goal

pub returns : goal.returns
returns c = rw c.packed_answer.ensures c.rank.ensures
