-- Demand 3's second sentence, on a table: a sound book's lists are sixteen plain sets of names, so the model's law of room is the promise's; and
-- the lists that a change would leave are plain sets of names also where it is refused. Assumes nothing.
use Prim.Native.Nat.{ℕ, ◌≤◌}
use mathlib.Core.Path.{◌≡◌, ◌∙◌, ap}
use mathlib.Core.Bool.{true}
use mathlib.Core.List.{List}
use Rattle.sets.specs.Automata.{Fewest}
use Rattle.sets.specs.Residuals.{need}
use Rattle.model.specs.Lists.{SixteenSets}
use Rattle.model.specs.Call.{Call, Outcome}
use Rattle.model.specs.Run.{rule}
use Rattle.model.specs.Changes.{is_change}
use Rattle.model.specs.Room.{OnlyRoom}
use Rattle.model.proofs.Changes.{done-number}
use Rattle.model.proofs.Room.{after-sets, room-exact}
use Rattle.rows.specs.Table.{Table, room}
use Rattle.rows.specs.Words.{lists}
use Rattle.rows.specs.Rules.{sound}
use Rattle.rows.proofs.Rules.{sound-facts}
use Rattle.minimal.proofs.Theorems.{used-need, sound-lists}
use Rattle.answers.specs.declared.replies.Reply.{Reply}
use Rattle.promises.specs.Books.{book_of}
use Rattle.promises.specs.Promises.{Promised, RoomDecides}
use Rattle.promises.proofs.AnyCalls.{kept}

-- The lists that a call would leave, where nothing but room refuses it.
pub sets-after : (t : Table) → sound t ≡ true → (call : Call) → OnlyRoom (book_of t) call → SixteenSets (rule (book_of t) call).done.lists
sets-after t s call only = after-sets (book_of t) call (sound-lists t s) only

pub room-decides : (t after : Table) (before filled : List ℕ) (call : Call) (reply : Reply) → sound t ≡ true
    → Promised t after before filled call reply → is_change call ≡ true → OnlyRoom (book_of t) call
    → (n : ℕ) → Fewest (rule (book_of t) call).done.lists n → RoomDecides t after call reply n
room-decides t after before filled call reply s p change only n few =
    let fits : need (lists t) ≤ room t = rw (← (used-need t s)) (sound-facts t s).fits in
    let k = kept t after before filled call reply s p in
    let exact = room-exact (book_of t) call (sound-lists t s) fits change only n few in
    let number = ap (λ (r : Reply). r.number) k.said in
    record {
      refused_over = λ e. exact.refused_over (rw number at e);
      over_refused = λ h. number ∙ exact.over_refused h;
      within_done = λ h. (number ∙ (ap (λ (o : Outcome). o.number) (exact.within_done h) ∙ done-number (book_of t) call), k.names ∙ ap (λ (o : Outcome). o.lists) (exact.within_done h));
    }
