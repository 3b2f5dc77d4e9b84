-- `is_list` meets its promise: what it asks in turn are the tests of `is_list`. Assumes nothing.
use Prim.Native.Nat.{ℕ, ◌≤◌}
use mathlib.Core.Path.{◌≡◌, sym, ◌∙◌}
use mathlib.Core.Bool.{Bool, true, false, ◌&&◌, and_assoc}
use mathlib.Core.List.{List}
use borrow.Author.Tests.{le-leb, lt-leb}
use lib.ListN.{length}
use Rattle.letters.specs.Each.{every}
use Rattle.letters.specs.Names.{is_name}
use Rattle.letters.specs.Lists.{longest_list, lines_of, ended, rises, names_of, is_list}
use Rattle.letters.proofs.lists.is_list.Goals as goal

short-list : (s : List ℕ) (names : Bool) → length s ≤ longest_list → (ended s && every is_name (lines_of s)) ≡ names
    → is_list s ≡ (names && rises (names_of s))
unfolding is_list
short-list s names h e = rw (le-leb _ _ h, ← e, and_assoc)

pub returns-then-s-gt-LONGEST_LIST : goal.returns-then-s-gt-LONGEST_LIST
unfolding is_list
returns-then-s-gt-LONGEST_LIST c = search lt-leb

pub returns-then-not-all_names : goal.returns-then-not-all_names
returns-then-not-all_names c = sym (short-list _ false c.if-s-gt-LONGEST_LIST.false (sym c.all_names.ensures ∙ c.if-not-all_names.true))

pub returns : goal.returns
returns c =
    c.all_rising.ensures
    ∙ sym (short-list _ true c.if-s-gt-LONGEST_LIST.false (sym c.all_names.ensures ∙ c.if-not-all_names.false))
