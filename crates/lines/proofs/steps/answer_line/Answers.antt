-- `answer_line` meets its promise: a line is no longer than the input; behind what is said to it the rest of the buffer is lent for the names.
-- Assumes nothing.
use native.Mathlib.Omega.{arith}
use borrow.Author.Rules.{rules}
use Rattle.letters.proofs.Lines.{name_end-le}
use Rattle.lines.proofs.Answered.{said-inside, names-inside, both-printed}
use Rattle.lines.proofs.steps.answer_line.Goals as goal

pub answer-said-requires : goal.answer-said-requires
answer-said-requires c =
    let s = c.args in
    rw c.name_at-line.ensures.bytes (omega (arith, name_end-le s.input.now s.place.at (omega arith)))

pub slice_bounds-follow-count : goal.slice_bounds-follow-count
slice_bounds-follow-count c = said-inside c.answer-said.ensures

pub slice_bounds-follow-start : goal.slice_bounds-follow-start
slice_bounds-follow-start c = said-inside c.answer-said.ensures

pub overflow_add-result : goal.overflow_add-result
overflow_add-result c =
    let s = c.args in
    omega (arith, c.name_end.ensures, name_end-le s.input.now s.place.at (omega arith))

pub overflow_add-result-3 : goal.overflow_add-result-3
overflow_add-result-3 c =
    let fits = names-inside c.answer-said.ensures (c.follow-names.ensures.long, c.follow-names.ensures.buffer) c.follow-names.auto.out in
    let same = c.answer-said.auto.out in
    let good = c.well_formed in
    search rules

pub returns : goal.returns
returns c =
    let all = both-printed c.answer-said.ensures (c.follow-names.ensures.long, c.follow-names.ensures.buffer) c.answer-said.auto.out in
    let line = c.name_at-line.ensures.bytes in
    let printed = rw line at all in
    record {
      next = rw (c.name_end.ensures, printed.long);
      buffer = printed.buffer;
      table = (rw line at c.answer-said.ensures).table;
    }
