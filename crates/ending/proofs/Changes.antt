-- What every change comes to. Where nothing changes, the table as it was meets the promise. A change that was settled is the model's: it is
-- refused for room exactly where the lists after it do not fit. Assumes nothing.
use Prim.Native.Nat.{ℕ}
use mathlib.Core.Path.{◌≡◌, refl, sym, ◌∙◌}
use mathlib.Core.Bool.{Bool, true, false, cond, not}
use mathlib.Core.List.{List}
use lib.Dec.{ltb}
use lib.ListN.{length}
use borrow.Author.Tests.{le-leb}
use Rattle.std.specs.Prelude.{Ok, Err}
use Rattle.sets.specs.Sets.{Words}
use Rattle.sets.specs.Residuals.{need}
use Rattle.model.specs.Lists.{list_of, replace}
use Rattle.model.specs.Call.{Call, Book, Outcome}
use Rattle.model.specs.Rules.{leaves}
use Rattle.model.specs.Run.{refused, outcome, run}
use Rattle.model.proofs.Lists.{replace-itself}
use Rattle.model.proofs.Refusals.{over-most}
use Rattle.rows.specs.Table.{Table, room, used_rows}
use Rattle.rows.specs.Words.{lists}
use Rattle.rows.specs.Rules.{sound}
use Rattle.rows.proofs.Rules.{sound-facts}
use Rattle.minimal.proofs.Theorems.{used-need}
use Rattle.settling.specs.Settled.{fits, Changed}
use Rattle.answers.specs.declared.cases.Refusal.{Refusal}
use Rattle.answers.specs.declared.cases.Refusal.TheVariants.{NoRoom}
use Rattle.answers.specs.Replies.{refusal_number, Answer, answer_reply, reply_of}
use Rattle.promises.specs.Books.{book_of}
use Rattle.promises.specs.Promises.{Changes}
use Rattle.ending.specs.Ending.{settled_answer}

-- nothing changes: on a refusal, and where the list is as it was
unchanged : (t : Table) (call : Call) (a : Answer) → answer_reply a ≡ reply_of (run (book_of t) call) → (run (book_of t) call).lists ≡ lists t
    → Changes t t call (answer_reply a)
unchanged t call a answers same =
    record { answers = answers; becomes = record { same = λ _. refl; long = refl; sound = λ s. s; lists = sym same } }

pub refused-changes : (t : Table) (call : Call) (r : Refusal) → run (book_of t) call ≡ refused (refusal_number r) (book_of t)
    → Changes t t call (answer_reply (Err r))
refused-changes t call r e = unchanged t call (Err r) (rw e) (rw e)

pub same-changes : (t : Table) (call : Call) → run (book_of t) call ≡ leaves (lists t) 0 → Changes t t call (answer_reply (Ok 0))
same-changes t call e = unchanged t call (Ok 0) (rw e) (rw e)

-- there is room for the lists as they are
pub same-fits : (t : Table) → sound t ≡ true → (m : ℕ) → fits t m (list_of (lists t) m) ≡ true
same-fits t s m = rw (replace-itself, ← (used-need t s)) (le-leb (used_rows t) (room t) (sound-facts t s).fits)

-- 11 is the last of the refusals, and applies where the lists do not fit
last-refusal : (b : Book) (answered : Outcome) (over done : Bool) → over ≡ not done
    → outcome b (cond over 11 0) answered ≡ cond done answered (refused 11 b)
last-refusal b answered over true e = rw e
last-refusal b answered over false e = rw e

pub fits-or-not : (t : Table) (m : ℕ) (l : Words) (b : Book) (answered : Outcome) (done : Bool) → done ≡ fits t m l
    → outcome b (cond (ltb (room t) (need (replace (lists t) m l))) 11 0) answered ≡ cond done answered (refused 11 b)
fits-or-not t m l b answered done e = last-refusal b answered _ done (over-most (need (replace (lists t) m l)) (room t) ∙ rw (← e))

-- done, with these lists; where the value is 0, the table must be the same
pub done-changes : (t after : Table) (call : Call) (ls : List Words) (value : ℕ) → (value ≡ 0 → after ≡ t) → run (book_of t) call ≡ leaves ls value
    → length after ≡ length t → sound after ≡ true → lists after ≡ ls → Changes t after call (answer_reply (Ok value))
done-changes t after call ls value same e long fine new =
    record {
      answers = rw e;
      becomes = record { same = λ none. same (rw e at none); long = long; sound = λ _. fine; lists = rw e new };
    }

-- settled, where the model is as the lists fit
pub settled-changes : (t after : Table) (call : Call) (m : ℕ) (l : Words) (value : ℕ) → (value ≡ 0 → after ≡ t) → (done : Bool)
    → Changed t after m l done → run (book_of t) call ≡ cond done (leaves (replace (lists t) m l) value) (refused (refusal_number NoRoom) (book_of t))
    → Changes t after call (answer_reply (settled_answer done value))
settled-changes t after call m l value same true c e = done-changes t after call _ value same e c.long c.sound c.lists
settled-changes t after call m l value same false c e = rw (c.refused refl) (refused-changes t call NoRoom e)
