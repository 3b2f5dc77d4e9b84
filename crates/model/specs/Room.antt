-- Demand 3 where a change is refused: "the sixteen lists after the change need more states than room", by the fewest states of any automaton
-- that has these lists. Assumes nothing.
use Rattle.std.specs.Prelude.{ℕ, ◌≤◌, ◌<◌, ◌≡◌, ◌≢◌, false}
use Rattle.letters.specs.Each.{Each}
use Rattle.model.specs.Call.{Call, Book}
use Rattle.model.specs.Run.{rule, run}

-- nothing but room refuses the call: no refusal applies but 11
abbrev pub OnlyRoom : Book → Call → Type 0
OnlyRoom b c = Each (λ r. r.number ≢ 11 → r.applies ≡ false) (rule b c).refusals

-- where n states are the fewest for the lists that the call would leave: it is refused for room exactly when they are more than the room, and
-- else it is done
pub record RoomExact (b : Book) (c : Call) (n : ℕ) : Type 0 where
  pub refused_over : (run b c).number ≡ 11 → b.room < n
  pub over_refused : b.room < n → (run b c).number ≡ 11
  pub within_done : n ≤ b.room → run b c ≡ (rule b c).done
