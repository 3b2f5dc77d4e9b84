-- `call` meets its promise: in each branch the kind is known, and the call's own promise is the one asked for. Assumes nothing.
use Rattle.lines.proofs.replies.call.Goals as goal

pub returns-in-Add : goal.returns-in-Add
returns-in-Add c = rw c.in-Add.is (rw c.from.ensures c.add.ensures)

pub returns-in-Remove : goal.returns-in-Remove
returns-in-Remove c = rw c.in-Remove.is (rw c.from-in-Remove.ensures c.remove.ensures)

pub returns-in-Ask : goal.returns-in-Ask
returns-in-Ask c = rw c.in-Ask.is (rw c.from-in-Ask.ensures c.ask.ensures)

pub returns-in-Count : goal.returns-in-Count
returns-in-Count c = rw c.in-Count.is (rw c.from-in-Count.ensures c.count.ensures)
