-- After any calls from an empty book, the book is sound, its lists are those of sixteen plain sets, every number, value and buffer was theirs, and
-- no automaton has the lists in fewer states. Each call keeps a sound book, and on a sound book its promise is the model's outcome; the rest is
-- by induction over the calls. Assumes nothing.
use Prim.Native.Nat.{ℕ}
use mathlib.Core.Path.{◌≡◌, refl, sym, ◌∙◌, ap, ap₂}
use mathlib.Core.Bool.{true}
use mathlib.Core.List.{List, [], ◌∷◌}
use lib.ListN.{length, replicate, length-replicate}
use Rattle.model.specs.Lists.{empty_lists}
use Rattle.model.specs.Call.{Call, book_with, overlaid}
use Rattle.model.specs.Call.Call.{empty}
use Rattle.model.specs.Run.{run}
use Rattle.rows.specs.Table.{Table, length_ok, room}
use Rattle.rows.specs.Words.{lists}
use Rattle.rows.specs.Rules.{sound}
use Rattle.rows.proofs.Rules.{sound-length}
use Rattle.rows.proofs.Zeros.{zeros-sound, zeros-lists}
use Rattle.minimal.proofs.Theorems.{sound-fewest}
use Rattle.answers.specs.declared.replies.Reply.{Reply}
use Rattle.answers.specs.Replies.{reply_of}
use Rattle.promises.specs.Books.{book_of}
use Rattle.promises.specs.Promises.{Promised}
use Rattle.promises.specs.Histories.{Event, Happens, table_after, AsPlainSets}
use Rattle.promises.proofs.Walks.{sound-outcome}
use Rattle.promises.proofs.Outcomes.{Kind, kind, emptied}
use Rattle.promises.proofs.Outcomes.Kind.{empties, reads, changes}

-- a slice of a right length that was made an empty book
record EmptyBook (t after : Table) : Type 0 where
  fine : sound after ≡ true
  long : length after ≡ length t
  none : lists after ≡ empty_lists

zeros-empty : (t after : Table) → length_ok t ≡ true → after ≡ replicate (length t) 0 → EmptyBook t after
zeros-empty t after fine e =
    record {
      fine = rw e (zeros-sound t fine);
      long = ap length e ∙ length-replicate {A = ℕ} (length t) 0;
      none = rw e (zeros-lists (length t));
    }

empty-lists : (t : Table) → length_ok t ≡ true → (run (book_of t) empty).lists ≡ empty_lists
unfolding run
empty-lists t e = rw e

-- what a call leaves of a sound book, and what it says
pub record Kept (t after : Table) (before filled : List ℕ) (call : Call) (reply : Reply) : Type 0 where
  pub fine : sound after ≡ true
  pub long : length after ≡ length t
  pub names : lists after ≡ (run (book_of t) call).lists
  pub said : reply ≡ reply_of (run (book_of t) call)
  pub wrote : filled ≡ overlaid (run (book_of t) call).written before

-- One call on a sound book.
pub kept : (t after : Table) (before filled : List ℕ) (call : Call) (reply : Reply) → sound t ≡ true → Promised t after before filled call reply
    → Kept t after before filled call reply
kept t after before filled call reply s p =
    let (fine, long, names) = go (kind call) in
    record {
      fine = fine;
      long = long;
      names = names;
      said = p.answers ∙ ap reply_of (sound-outcome t s call);
      wrote = p.buffer ∙ rw (sound-outcome t s call);
    }
  where
    go : Kind call → (sound after ≡ true) × (length after ≡ length t) × (lists after ≡ (run (book_of t) call).lists)
    go (empties e) =
        let fine = sound-length t s in
        let made = zeros-empty t after fine (emptied t after e p.table ∙ rw fine) in
        (made.fine, made.long, made.none ∙ sym (rw e (empty-lists t fine)))
    go (reads r) = let e = r.table t after p.table in rw e (s, refl, sym (r.lists (book_of t)))
    go (changes c) = let b = c.table t after p.table in (b.sound s, b.long, b.lists)

-- what the model finds in a sound book
pub sound-book : (t : Table) → sound t ≡ true → book_of t ≡ book_with (room t) (lists t)
sound-book t s = rw (sound-length t s, s)

-- After any calls on a sound book.
pub sound-calls : (history : List Event) (t : Table) → sound t ≡ true → Happens t history → AsPlainSets (room t) (lists t) history (table_after t history)
sound-calls [] t s happens = record { sound = s; lists = refl; replies = refl; buffers = refl; fewest = sound-fewest t s }
sound-calls (e ∷ more) t s (p, rest) =
    let k = kept t e.table e.before e.filled e.call e.reply s p in
    let same-room : room e.table ≡ room t = rw k.long in
    let later = rw (same-room, k.names, sound-book t s) at (sound-calls more e.table k.fine rest) in
    record {
      sound = later.sound;
      lists = later.lists;
      replies = ap₂ ◌∷◌ (k.said ∙ rw (sound-book t s)) later.replies;
      buffers = ap₂ ◌∷◌ (k.wrote ∙ rw (sound-book t s)) later.buffers;
      fewest = later.fewest;
    }

-- "After any calls from an empty book": a slice of a right length that `empty` made a book of.
pub any-calls : (slice t : Table) (before filled : List ℕ) (reply : Reply) (history : List Event) → length_ok slice ≡ true
    → Promised slice t before filled empty reply → Happens t history
    → AsPlainSets (room slice) empty_lists history (table_after t history)
any-calls slice t before filled reply history fine p happens =
    let made = zeros-empty slice t fine (p.table ∙ rw fine) in
    let same-room : room t ≡ room slice = rw made.long in
    rw (made.none, same-room) at (sound-calls history t made.fine happens)
