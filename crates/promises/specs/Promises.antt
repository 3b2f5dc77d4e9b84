-- What every call promises: its reply, the answer buffer after it, and the table after it. Assumes nothing.
use Rattle.std.specs.Prelude.{ℕ, ◌≤◌, ◌<◌, ◌≡◌, true, cond, List, length, replicate}
use Rattle.model.specs.Call.{Call, Outcome, overlaid}
use Rattle.model.specs.Call.Call.{empty, check, ask, next, add, remove, clear, load, load_two, combine, count, rank, nth, write, used}
use Rattle.model.specs.Run.{rule, ruled, run}
use Rattle.model.specs.Changes.{is_change}
use Rattle.rows.specs.Table.{Table, length_ok, room}
use Rattle.rows.specs.Words.{lists}
use Rattle.rows.specs.Rules.{sound}
use Rattle.minimal.specs.Renumbered.{Renumbered}
use Rattle.answers.specs.declared.replies.Reply.{Reply}
use Rattle.answers.specs.Replies.{reply_of}
use Rattle.promises.specs.Books.{book_of}
use Rattle.promises.specs.Walks.{ask_walk, next_walk}

-- What a call on a table comes to, by what it finds there: "ask and next work on any numbers", every other call on a book.
abbrev pub outcome_of : Table → Call → Outcome
outcome_of t (ask m name) = ruled (book_of t) (ask_walk t m name)
outcome_of t (next m prefix) = ruled (book_of t) (next_walk t m prefix)
outcome_of t empty = run (book_of t) empty
outcome_of t check = run (book_of t) check
outcome_of t (add m name) = run (book_of t) (add m name)
outcome_of t (remove m name) = run (book_of t) (remove m name)
outcome_of t (clear m) = run (book_of t) (clear m)
outcome_of t (load m list) = run (book_of t) (load m list)
outcome_of t (load_two m first second) = run (book_of t) (load_two m first second)
outcome_of t (combine op a b c) = run (book_of t) (combine op a b c)
outcome_of t (count m) = run (book_of t) (count m)
outcome_of t (rank m name) = run (book_of t) (rank m name)
outcome_of t (nth m n size) = run (book_of t) (nth m n size)
outcome_of t (write m size) = run (book_of t) (write m size)
outcome_of t used = run (book_of t) used

-- "Each call answers a number and a value."
abbrev pub reply_to : Table → Call → Reply
reply_to t call = reply_of (outcome_of t call)

-- The table after a change with this outcome. Where the value is 0 (each refusal, and "1 if the list changed, else 0, and then the table is the
-- same") it is the same, number for number; a sound book stays one, and its lists are those of the outcome.
pub record Becomes (t after : Table) (o : Outcome) : Type 0 where
  pub same : o.value ≡ 0 → after ≡ t
  pub long : length after ≡ length t
  pub sound : sound t ≡ true → sound after ≡ true
  pub lists : lists after ≡ o.lists

-- What a change replies, and the table after it: the promise of the functions that do a part of one.
pub record Changes (t after : Table) (call : Call) (reply : Reply) : Type 0 where
  pub answers : reply ≡ reply_of (run (book_of t) call)
  pub becomes : Becomes t after (run (book_of t) call)

-- The table after a call. "empty sets every number to 0", and a refusal "changes no number of the table". A table that is lent to read stays
-- as it is.
abbrev pub Leaves : Table → Table → Call → Type 0
Leaves t after empty = after ≡ cond (length_ok t) (replicate (length t) 0) t
Leaves t after (add m name) = Becomes t after (run (book_of t) (add m name))
Leaves t after (remove m name) = Becomes t after (run (book_of t) (remove m name))
Leaves t after (clear m) = Becomes t after (run (book_of t) (clear m))
Leaves t after (load m list) = Becomes t after (run (book_of t) (load m list))
Leaves t after (load_two m first second) = Becomes t after (run (book_of t) (load_two m first second))
Leaves t after (combine op a b c) = Becomes t after (run (book_of t) (combine op a b c))
Leaves t after check = after ≡ t
Leaves t after (ask m name) = after ≡ t
Leaves t after (next m prefix) = after ≡ t
Leaves t after (count m) = after ≡ t
Leaves t after (rank m name) = after ≡ t
Leaves t after (nth m n size) = after ≡ t
Leaves t after (write m size) = after ≡ t
Leaves t after used = after ≡ t

-- "Each public function carries a promise that names number, value, table and buffers after the call, for all inputs and for refusals." What is
-- written "stands at the front of the buffer; later bytes stay". A call that is lent no answer buffer has one of no bytes.
pub record Promised (t after : Table) (before filled : List ℕ) (call : Call) (reply : Reply) : Type 0 where
  pub answers : reply ≡ reply_to t call
  pub buffer : filled ≡ overlaid (outcome_of t call).written before
  pub table : Leaves t after call

-- "A refusal .. changes no number of the table and no byte of an answer buffer." "add and remove 1 if the list changed, else 0, and then the
-- table is the same", and so of every change.
pub record Untouched (t after : Table) (before filled : List ℕ) (call : Call) (reply : Reply) : Type 0 where
  pub refused : 0 < reply.number → (after ≡ t) × (filled ≡ before)
  pub idle : is_change call ≡ true → reply.value ≡ 0 → after ≡ t

-- Two outcomes of a call are the same: number, values and buffers; "which state rows hold which states is free, and tables are then the same up
-- to renumbering".
pub record Same (u v : Table) (x y : List ℕ) (r s : Reply) : Type 0 where
  pub replies : r ≡ s
  pub buffers : x ≡ y
  pub tables : Renumbered u v

-- "Any two outcomes that satisfy it are proved the same."
pub record Tight (t u v : Table) (before x y : List ℕ) (call : Call) (r s : Reply) : Type 0 where
  pub same : Same u v x y r s
  pub first : Untouched t u before x call r
  pub second : Untouched t v before y call s

-- Demand 3: "a change is refused for room exactly when the fewest states needed are more than the room", n for the lists that it would leave.
pub record RoomDecides (t after : Table) (call : Call) (reply : Reply) (n : ℕ) : Type 0 where
  pub refused_over : reply.number ≡ 11 → room t < n
  pub over_refused : room t < n → reply.number ≡ 11
  pub within_done : n ≤ room t → (reply.number ≡ 0) × (lists after ≡ (rule (book_of t) call).done.lists)
