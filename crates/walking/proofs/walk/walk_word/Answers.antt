-- `walk_word` meets its promise: the branches settle whether the bytes are as long as they may be and whether those that are left are letters; then
-- all are, and the walk is that of their word. Assumes nothing.
use Prim.Native.Nat.{◌-◌}
use native.Mathlib.Omega.{arith}
use mathlib.Core.Path.{◌≡◌, sym, ◌∙◌}
use mathlib.Core.Bool.{true}
use lib.ListN.{length, length-map}
use Rattle.letters.specs.Letters.{letter}
use Rattle.letters.specs.Words.{word_of}
use Rattle.letters.specs.Names.{spelled}
use Rattle.rows.specs.Table.{start}
use Rattle.rows.specs.Walk.{followed}
use Rattle.walking.proofs.Ways.{Ends, way-ends}
use Rattle.walking.proofs.walk.walk_word.Goals as goal
use Rattle.walking.proofs.walk.walk_word.Goals.{After-is_spelled, After-walk_list-way, Else-not-long}

long : (c : Else-not-long) → c.args.long ≡ true
long c = c.if-not-long.false

-- what the end of the walk tells
end : (c : After-walk_list-way) →
    let args = c.args in
    Ends args.t.now args.word.now (start args.t.now args.m) c.walk_list-way.result
end c =
    let args = c.args in
    rw (← c.walk_list-way.ensures) at (way-ends args.t.now args.word.now (start args.t.now args.m))

pub overflow_sub-followed : goal.overflow_sub-followed
overflow_sub-followed c = (end (goal.at.overflow_sub-followed c).After-walk_list-way).few

-- all are letters if those that are left are
all : (c : After-is_spelled) → spelled c.args.word.now ≡ c.is_spelled.result
all c = sym (end (goal.at.After-is_spelled c).After-walk_list-way).same ∙ sym c.is_spelled.ensures

pub returns-then-not-is_spelled : goal.returns-then-not-is_spelled
returns-then-not-is_spelled c =
    rw (long (goal.at.returns-then-not-is_spelled c).Else-not-long, all (goal.at.returns-then-not-is_spelled c).After-is_spelled ∙ c.if-not-is_spelled.true)

pub returns : goal.returns
returns c =
    let args = c.args in
    let fine = all (goal.at.returns c).After-is_spelled ∙ c.if-not-is_spelled.false in
    let word = args.word.now in
    let arcs : length word - c.walk_list-way.result.left ≡ followed args.t.now (word_of word) (start args.t.now args.m) =
    omega (arith, (end (goal.at.returns c).After-walk_list-way).left fine, length-map word letter) in
    rw (long (goal.at.returns c).Else-not-long, fine, (end (goal.at.returns c).After-walk_list-way).row fine, arcs)
