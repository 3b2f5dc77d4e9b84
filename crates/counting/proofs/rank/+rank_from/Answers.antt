use Prim.Native.Nat.{ℕ, ◌+◌, ◌≤◌, ◌<◌}
use native.Mathlib.Omega.{arith}
use mathlib.Core.Path.{◌≡◌, sym}
use mathlib.Core.List.{List, [], ◌∷◌}
use lib.ListN.{length}
use lib.Seq.{take_all}
use Rattle.letters.specs.Letters.{letters}
use Rattle.letters.specs.Words.{Word, word_of, rest, Spelled}
use Rattle.letters.proofs.Words.{word-rest, rest-length, spelled-rest}
use Rattle.sets.specs.Cut.{most_names}
use Rattle.sets.specs.Sets.{keep}
use Rattle.model.specs.Lists.{rank_of}
use Rattle.rows.specs.Table.{Table, target}
use Rattle.rows.specs.Words.{words}
use Rattle.rows.proofs.Facts.{no_row}
use Rattle.rows.proofs.Words.{words-none}
use Rattle.counting.specs.Ahead.{ahead_by}
use Rattle.counting.specs.Counts.{count_at, Counts, CountedRow}
use Rattle.counting.proofs.Ahead.{rank-empty, rank-few, rank-words, target-few, target-counted, ahead-counts}
use Rattle.counting.proofs.rank.+rank_from.Goals as goal
use Rattle.counting.proofs.rank.+rank_from.Goals.{After-letter_of-x, After-rank_from}

-- the array's numbers are exact, so they give the rank
rank-by-counts : (t : Table) (counts : List ℕ) (c : Counts t counts) (n : ℕ) → CountedRow t counts n → length (words t n) ≤ most_names
    → (x : ℕ) → x < letters → (w : Word)
    → ahead_by (λ s. count_at counts s) t n x + rank_of w (words t (target t n x)) ≡ rank_of (x ∷ w) (words t n)
rank-by-counts t counts c n row few x h w =
    rw (ahead-counts t counts c n row few x (omega arith)) (sym (rank-words t c.tidy n row.used x h w))

pub returns-then-n-eq0 : goal.returns-then-n-eq0
unfolding keep
returns-then-n-eq0 bound c =
    let args = c.args in
    rw (words-none args.t.now args.n (no_row args.t.now args.n c.if-n-eq0.true))

pub returns-then-name-eq0 : goal.returns-then-name-eq0
returns-then-name-eq0 bound c =
    let args = c.args in
    let none : args.name.now ≡ [] = sym (take_all 0 args.name.now (omega arith)) in
    rw none (sym (rank-empty (words args.t.now args.n)))

-- n is a row that is counted, and the name begins with a letter
begins : (bound : ℕ) → (c : After-letter_of-x bound) →
    let args = c.args in
    CountedRow args.t.now args.counts.now args.n × (c.letter_of-x.result < letters) × Spelled (word_of (rest args.name.now))
begins bound c =
    let (counts, counted, few, spelled) = c.requires in
    let (letter, left) = spelled-rest c.args.name.now (omega arith) spelled in
    (counted (omega arith), rw c.letter_of-x.ensures letter, left)

pub rank_from-requires : goal.rank_from-requires
rank_from-requires bound c =
    let (counts, counted, few, spelled) = c.requires in
    let (row, letter, left) = begins bound (goal.at.rank_from-requires bound c).After-letter_of-x in
    let t = c.args.t.now in
    let name = c.args.name.now in
    let less : length (rest name) < bound = omega (arith, rest-length name (omega arith), c.decreases) in
    let fewer = target-few t counts.tidy c.args.n row.used _ letter in
    rw c.target-next.ensures
    (less, (counts, target-counted t c.args.counts.now counts c.args.n row _ letter, omega arith, left))

-- the sum is the rank, and so no more than the words of the row
rank-sum : (bound : ℕ) → (c : After-rank_from bound) →
    let args = c.args in
    c.words_ahead-before.result + c.rank_from.result ≡ rank_of (word_of args.name.now) (words args.t.now args.n)
rank-sum bound c =
    let (counts, counted, few, spelled) = c.requires in
    let (row, letter, left) = begins bound (goal.at.After-rank_from bound c).After-letter_of-x in
    rw (
      c.words_ahead-before.ensures,
      c.rank_from.ensures,
      c.target-next.ensures,
      word-rest c.args.name.now (omega arith),
      ← c.letter_of-x.ensures,
    )
    (rank-by-counts c.args.t.now c.args.counts.now counts c.args.n row few _ letter _)

pub overflow_add-result : goal.overflow_add-result
overflow_add-result bound c =
    let (counts, counted, few, spelled) = c.requires in
    omega (arith, rank-sum bound c, rank-few (word_of c.args.name.now) (words c.args.t.now c.args.n))

pub returns : goal.returns
returns bound c = rank-sum bound c
