-- What ask and next say of any table. Assumes nothing.
use Rattle.std.specs.Prelude.{ℕ, List}
use Rattle.letters.specs.Letters.{letters}
use Rattle.letters.specs.Words.{word_of}
use Rattle.letters.specs.LetterSet.{flag, sum_of, count_of}
use Rattle.model.specs.Rules.{Rule, answers_both, ask_rule, next_rule}
use Rattle.rows.specs.Table.{Table, start}
use Rattle.rows.specs.Walk.{accepts, followed, follows}
use Rattle.promises.specs.Books.{book_of}

-- "ask and next work on any numbers": the refusals are the model's, and the walk answers.
-- "ask says 1 exactly when the walk ends on a row with mark 2." 02, wish 1: "ask shall also report the arcs it followed."
abbrev pub ask_walk : Table → ℕ → List ℕ → Rule
ask_walk t m name =
    let b = book_of t in
    let w = word_of name in
    record {
      refusals = (ask_rule b m name).refusals;
      done = answers_both b (flag (accepts t w (start t m))) (followed t w (start t m));
    }

-- "next reports each letter whose target is a row." "The number of letters that may follow is also answered."
abbrev pub next_walk : Table → ℕ → List ℕ → Rule
next_walk t m prefix =
    let b = book_of t in
    let test = follows t (word_of prefix) (start t m) in
    record {
      refusals = (next_rule b m prefix).refusals;
      done = answers_both b (sum_of letters test) (count_of letters test);
    }
