-- Calls one after the other, each with its reply. Assumes nothing.
use Rattle.std.specs.Prelude.{ℕ, ◌≡◌, true, List, [], ◌∷◌, map}
use Rattle.sets.specs.Sets.{Words}
use Rattle.sets.specs.Automata.{Minimal}
use Rattle.model.specs.Call.{Call, book_with, overlaid}
use Rattle.model.specs.Run.{run}
use Rattle.rows.specs.Table.{Table}
use Rattle.rows.specs.Words.{lists}
use Rattle.rows.specs.Rules.{sound}
use Rattle.minimal.specs.Book.{automaton}
use Rattle.answers.specs.declared.replies.Reply.{Reply}
use Rattle.answers.specs.Replies.{reply_of}
use Rattle.promises.specs.Promises.{Promised}

-- a call that was made: its answer buffer before and after it, the table after it, and what it replied
pub record Event : Type 0 where
  pub call : Call
  pub before : List ℕ
  pub filled : List ℕ
  pub table : Table
  pub reply : Reply

-- the calls were made on the table one after the other, each as promised
abbrev pub Happens : Table → List Event → Type 0
Happens t [] = Unit {0}
Happens t (e ∷ more) = Promised t e.table e.before e.filled e.call e.reply × Happens e.table more

-- the table after them
abbrev pub table_after : Table → List Event → Table
table_after t [] = t
table_after t (e ∷ more) = table_after e.table more

-- the lists after the calls, all that they reply, and the buffers that they leave, on sixteen plain sets
abbrev pub lists_after : ℕ → List Words → List Event → List Words
lists_after room ls [] = ls
lists_after room ls (e ∷ more) = lists_after room (run (book_with room ls) e.call).lists more

abbrev pub replies : ℕ → List Words → List Event → List Reply
replies room ls [] = []
replies room ls (e ∷ more) =
    let outcome = run (book_with room ls) e.call in
    reply_of outcome ∷ replies room outcome.lists more

abbrev pub buffers : ℕ → List Words → List Event → List (List ℕ)
buffers room ls [] = []
buffers room ls (e ∷ more) =
    let outcome = run (book_with room ls) e.call in
    overlaid outcome.written e.before ∷ buffers room outcome.lists more

-- Demands 2 and 3: "The book answers as sixteen plain sets of names do", and "no table of states (also a cyclic one) has the same sixteen lists
-- in fewer states".
pub record AsPlainSets (room : ℕ) (ls : List Words) (history : List Event) (after : Table) : Type 0 where
  pub sound : sound after ≡ true
  pub fewest : Minimal (automaton after) (lists after)
  pub lists : lists after ≡ lists_after room ls history
  pub replies : map (λ (e : Event). e.reply) history ≡ replies room ls history
  pub buffers : map (λ (e : Event). e.filled) history ≡ buffers room ls history
