-- `is_headed` meets its promise: what it asks are the tests of `is_headed`. Assumes nothing.
use mathlib.Core.Bool.{and_assoc}
use borrow.Author.Tests.{le-leb, lt-leb}
use Rattle.lines.specs.Requests.{head_length}
use Rattle.lines.proofs.requests.is_headed.Goals as goal

pub returns-then-line-lt-HEAD : goal.returns-then-line-lt-HEAD
returns-then-line-lt-HEAD c = search lt-leb

pub returns : goal.returns
returns c =
    simp (le-leb head_length _ c.if-line-lt-HEAD.false, c.is_digit.ensures, c.is_digit-2.ensures, and_assoc)
