-- `write_if_fits` meets its promise: on a sound book only refusals 5 and 6 are left. The number of bytes settles them, and then the list is written.
-- Assumes nothing.
use Prim.Native.Nat.{ℕ}
use native.Mathlib.Omega.{arith}
use mathlib.Core.Path.{◌≡◌, refl}
use mathlib.Core.List.{List}
use borrow.Author.Tests.{lt-ltb, le-ltb}
use lib.ListN.{length}
use Rattle.letters.specs.Lists.{lines}
use Rattle.model.specs.Lists.{list_of}
use Rattle.model.specs.Call.Call.{write}
use Rattle.model.specs.Run.{run}
use Rattle.model.proofs.Refusals.{mission-under}
use Rattle.rows.specs.Words.{names, lists}
use Rattle.rows.proofs.Rules.{sound-facts, sound-length}
use Rattle.rows.proofs.Books.{list-names}
use Rattle.answers.specs.declared.cases.Refusal.TheVariants as refusal
use Rattle.ranking.proofs.Outcomes.{list_over, list-under, list-exact, put_refused, put-done}
use Rattle.ranking.proofs.writes.write_if_fits.Goals as goal
use Rattle.ranking.proofs.writes.write_if_fits.Goals.{Else-size-gt-LONGEST_LIST}

pub list_size-size-requires : goal.list_size-size-requires
list_size-size-requires c =
    let (s, h) = c.requires in
    ((sound-facts _ s).tidy, h)

pub returns-then-size-gt-LONGEST_LIST : goal.returns-then-size-gt-LONGEST_LIST
unfolding run
returns-then-size-gt-LONGEST_LIST c =
    let (s, h) = c.requires in
    let over = list_over c.args.t.now c.args.m _ h c.list_size-size.ensures (omega arith) in
    put_refused _ (write _ _) _ refl refusal.List (rw (sound-length _ s, mission-under _ h, s, over))

-- the number of bytes is exact
exact : (c : Else-size-gt-LONGEST_LIST) → let args = c.args in
    c.list_size-size.result ≡ length (lines (list_of (lists args.t.now) args.m))
exact c =
    list-exact c.args.t.now c.args.m _ c.requires.1 c.list_size-size.ensures (omega arith)

pub returns-then-out-size : goal.returns-then-out-size
unfolding run
returns-then-out-size c =
    let (s, h) = c.requires in
    let under = list-under c.args.t.now c.args.m _ h c.list_size-size.ensures (omega arith) in
    let short = lt-ltb (length c.args.out.now) (length (lines (list_of (lists c.args.t.now) c.args.m))) (omega (arith, exact (goal.at.returns-then-out-size c).Else-size-gt-LONGEST_LIST)) in
    put_refused _ (write _ _) _ refl refusal.Buffer (rw (sound-length _ s, mission-under _ h, s, under, short))

pub write_list-requires : goal.write_list-requires
write_list-requires c =
    let (s, h) = c.requires in
    ((sound-facts _ s).tidy, h, rw (← list-names c.args.t.now c.args.m h) (omega (arith, exact (goal.at.write_list-requires c).Else-size-gt-LONGEST_LIST)))

pub returns : goal.returns
unfolding run
returns c =
    let (s, h) = c.requires in
    let t = c.args.t.now in
    let bytes : List ℕ = lines (names t c.args.m) in
    let under = list-under t c.args.m _ h c.list_size-size.ensures (omega arith) in
    let fits = le-ltb (length c.args.out.now) (length (lines (list_of (lists t) c.args.m))) (omega (arith, exact (goal.at.returns c).Else-size-gt-LONGEST_LIST)) in
    put-done _ (write _ _) _ refl _ _ (length bytes) bytes
    (rw (sound-length _ s, mission-under _ h, s, under, fits, list-names t c.args.m h))
    c.write_list.ensures.long c.write_list.ensures.buffer
