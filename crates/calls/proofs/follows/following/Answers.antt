-- `following` meets its promise: the letters are as many as their set has ones. Assumes nothing.
use Rattle.letters.proofs.LetterSet.{ones-sum}
use Rattle.calls.proofs.follows.following.Goals as goal

pub returns : goal.returns
returns c = rw (c.letter_count.ensures, c.letter_set-set.ensures, ones-sum)
