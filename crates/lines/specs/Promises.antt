-- What is said to a line, and which names follow. Assumes nothing.
use Rattle.std.specs.Prelude.{Some, None, ℕ, ◌-◌, ◌≡◌, cond, List, [], ◌++◌, eqb, length}
use Rattle.sets.specs.Sets.{Words}
use Rattle.model.specs.Lists.{list_of}
use Rattle.model.specs.Call.{Call, Book, Outcome, overlaid}
use Rattle.model.specs.Call.Call.{count, write}
use Rattle.model.specs.Run.{run}
use Rattle.rows.specs.Table.{Table}
use Rattle.promises.specs.Books.{book_of}
use Rattle.promises.specs.Promises.{Promised, outcome_of, reply_to}
use Rattle.printing.specs.Printed.{answer_line, other_line}
use Rattle.lines.specs.declared.requests.Kind.TheVariants.{Add, Remove, Ask, Count}
use Rattle.lines.specs.Requests.{Request, name_of, request_of, call_of}

-- what is said to a line, the n-th, by what the call that it asks for comes to; "For any other line" its number
abbrev pub said : (Call → Outcome) → List ℕ → ℕ → Request → List ℕ
said outcome line n (Some (kind, m)) = let o = outcome (call_of kind m (name_of line)) in answer_line line o.number o.value
said outcome line n None = other_line n

-- what is said to it on a table
abbrev pub said_to : Table → List ℕ → ℕ → List ℕ
said_to t line n = said (outcome_of t) line n (request_of line)

-- what it leaves of the table: the call's promise; "For any other line" nothing is done
abbrev pub RequestLeaves : Table → Table → List ℕ → Request → Type 0
RequestLeaves t after line (Some (kind, m)) = let call = call_of kind m (name_of line) in Promised t after [] [] call (reply_to t call)
RequestLeaves t after line None = after ≡ t

abbrev pub LineLeaves : Table → Table → List ℕ → Type 0
LineLeaves t after line = RequestLeaves t after line (request_of line)

-- what is said to the line stands at the front of the buffer, and k is its length
pub record Answered (t after : Table) (line : List ℕ) (n : ℕ) (before filled : List ℕ) (k : ℕ) : Type 0 where
  pub long : k ≡ length (said_to t line n)
  pub buffer : filled ≡ overlaid (said_to t line n) before
  pub table : LineLeaves t after line

-- "After `L` with number 0 the names follow in order"
abbrev pub names_behind : Book → Request → Words
names_behind b (Some (Add, m)) = []
names_behind b (Some (Remove, m)) = []
names_behind b (Some (Ask, m)) = []
names_behind b (Some (Count, m)) = cond (eqb (run b (count m)).number 0) (list_of b.lists m) []
names_behind b None = []

-- what a step prints of them, where so many bytes of the buffer are left: what the call write puts there
abbrev pub written_behind : Book → Request → ℕ → List ℕ
written_behind b (Some (Add, m)) size = []
written_behind b (Some (Remove, m)) size = []
written_behind b (Some (Ask, m)) size = []
written_behind b (Some (Count, m)) size = (run b (write m size)).written
written_behind b None size = []

-- what a step prints for a line, the n-th, into so many bytes: what is said to it, and the names that follow
abbrev pub printed_for : Table → List ℕ → ℕ → ℕ → List ℕ
printed_for t line n size =
    let answer = said_to t line n in
    answer ++ written_behind (book_of t) (request_of line) (size - length answer)
