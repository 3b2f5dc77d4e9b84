-- What the calls share on their way to an outcome: the mission's list, the test of the number of its bytes, and what nth and write leave in
-- the buffer. Assumes nothing.
use Prim.Native.Nat.{ℕ, suc, ◌≤◌, ◌<◌, min}
use native.Mathlib.Omega.{arith}
use mathlib.Core.Path.{◌≡◌}
use mathlib.Core.Bool.{true, false}
use mathlib.Core.List.{List, []}
use lib.Dec.{ltb}
use lib.ListN.{length}
use borrow.Author.Tests.{lt-ltb, le-ltb}
use Rattle.std.specs.Prelude.{Ok, Err}
use Rattle.letters.specs.Names.{longest}
use Rattle.letters.specs.Lists.{longest_list, lines}
use Rattle.sets.proofs.Membership.{get_or-in, each_in}
use Rattle.model.specs.Lists.{missions, list_of, nth_of}
use Rattle.model.specs.Call.{Call, overlaid}
use Rattle.model.specs.Rules.{puts}
use Rattle.model.specs.Run.{refused}
use Rattle.rows.specs.Table.{Table, start}
use Rattle.rows.specs.Words.{words, names, lists}
use Rattle.rows.proofs.Words.{words-short}
use Rattle.rows.proofs.Books.{list-names}
use Rattle.answers.specs.declared.cases.Refusal.{Refusal}
use Rattle.answers.specs.Replies.{refusal_number, answer_reply}
use Rattle.promises.specs.Books.{book_of}
use Rattle.promises.specs.Promises.{outcome_of, Leaves, Promised}

-- the mission's list is the words of its start
pub list-words : (t : Table) (m r : ℕ) → m < missions → r ≡ start t m → list_of (lists t) m ≡ words t r
list-words t m r h e = rw e (list-names t m h)

-- "over 65,535 bytes are needed", by the number of bytes of the mission's list, cut
module _ (t : Table) (m k : ℕ) (h : m < missions) (e : k ≡ min (length (lines (names t m))) (suc longest_list)) where
  pub list_over : longest_list < k → ltb longest_list (length (lines (list_of (lists t) m))) ≡ true
  list_over over = rw (list-names t m h) (lt-ltb longest_list (length (lines (names t m))) (omega arith))

  pub list-under : k ≤ longest_list → ltb longest_list (length (lines (list_of (lists t) m))) ≡ false
  list-under under = rw (list-names t m h) (le-ltb longest_list (length (lines (names t m))) (omega arith))

  pub list-exact : k ≤ longest_list → k ≡ length (lines (list_of (lists t) m))
  list-exact under = rw (list-names t m h) (omega arith)

pub name-short : (t : Table) (r n : ℕ) → n < length (words t r) → length (nth_of n (words t r)) ≤ longest
name-short t r n h = each_in _ (words-short t r) (get_or-in [] (words t r) n h)

-- a call refused leaves the buffer, and a call done writes its bytes
module _ (t : Table) (call : Call) (before : List ℕ) (leaves : Leaves t t call) where
  pub put_refused : (r : Refusal) → outcome_of t call ≡ refused (refusal_number r) (book_of t)
      → Promised t t before before call (answer_reply (Err r))
  put_refused r e = record { answers = rw e; buffer = rw e; table = leaves }

  pub put-done : (after : List ℕ) (k value : ℕ) (bytes : List ℕ) → outcome_of t call ≡ puts (book_of t) bytes value → k ≡ value
      → after ≡ overlaid bytes before → Promised t t before after call (answer_reply (Ok k))
  put-done after k value bytes e long written = record { answers = rw (e, long); buffer = rw e written; table = leaves }
