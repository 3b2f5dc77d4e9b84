-- A line that asks for a call is answered by what the call replies, which the table before it tells; and the names that follow are those before
-- the call: where some follow, the call only counts. Both are written to the front of the buffer, the names behind the answer. Assumes nothing.
use Rattle.std.specs.Prelude.{Some, None}
use Prim.Native.Nat.{ℕ, ◌+◌, ◌-◌, ◌≤◌}
use native.Mathlib.Omega.{arith}
use mathlib.Core.Path.{◌≡◌, refl, ◌∙◌}
use mathlib.Core.List.{List, []}
use lib.ListN.{length}
use Rattle.model.specs.Call.{overlaid}
use Rattle.rows.specs.Table.{Table}
use Rattle.answers.specs.declared.replies.Reply.{Reply}
use Rattle.promises.specs.Books.{book_of}
use Rattle.promises.specs.Promises.{Promised}
use Rattle.printing.specs.Printed.{answer_line}
use Rattle.printing.proofs.Buffers.{Wrote, overlaid-wrote, overlaid-long, wrote-part, lent, back, length-lent}
use Rattle.lines.specs.declared.requests.Kind.{Kind}
use Rattle.lines.specs.declared.requests.Kind.TheVariants.{Add, Remove, Ask, Count}
use Rattle.lines.specs.Requests.{Request, name_of, request_of, call_of}
use Rattle.lines.specs.Promises.{said_to, RequestLeaves, Answered, written_behind, printed_for}

pub call-answered : {t after : Table} {line : List ℕ} {kind : Kind} {m n k : ℕ} {before filled : List ℕ} (reply : Reply)
    → request_of line ≡ Some (kind, m) → Promised t after [] [] (call_of kind m (name_of line)) reply
    → k ≡ length (answer_line line reply.number reply.value) → filled ≡ overlaid (answer_line line reply.number reply.value) before
    → Answered t after line n before filled k
call-answered {t} {after} {line} {kind} {m} reply asked p long buffer =
    let told = p.answers in
    record {
      long = long ∙ rw (told, asked);
      buffer = buffer ∙ rw (told, asked);
      table = rw asked (rw told at p);
    }

pub behind-stays : (t after : Table) (line : List ℕ) (size : ℕ) (asked : Request) → RequestLeaves t after line asked
    → written_behind (book_of after) asked size ≡ written_behind (book_of t) asked size
behind-stays t after line size (Some (Add, m)) p = refl
behind-stays t after line size (Some (Remove, m)) p = refl
behind-stays t after line size (Some (Ask, m)) p = refl
behind-stays t after line size (Some (Count, m)) p = rw p.table
behind-stays t after line size None same = refl

-- what is said is within the buffer, and behind it are the names
module _ {t after : Table} {line : List ℕ} {n k : ℕ} {before filled : List ℕ} (p : Answered t after line n before filled k) where
  pub said-inside : k ≤ length filled
  said-inside = rw (p.long, p.buffer) (overlaid-long (said_to t line n) before)

  abbrev names : List ℕ
  names = written_behind (book_of after) (request_of line) (length (lent k filled))

  module _ {j : ℕ} {part : List ℕ} (wrote : (j ≡ length names) × (part ≡ overlaid names (lent k filled))) where
    pub names-inside : length part ≡ length (lent k filled) → k + j ≤ length filled
    names-inside same =
        let fits : j ≤ length part = rw (wrote.0, wrote.1) (overlaid-long names (lent k filled)) in
        omega (arith, fits, same, length-lent k filled, said-inside)

    pub both-printed : length filled ≡ length before → Wrote (k + j) (printed_for t line n (length before)) before (back k filled part)
    both-printed same =
        let left : length (lent k filled) ≡ length before - length (said_to t line n) = rw (length-lent, same, p.long) in
        let stays : names ≡ written_behind (book_of t) (request_of line) (length before - length (said_to t line n)) =
        behind-stays t after line (length (lent k filled)) (request_of line) p.table ∙ rw left in
        wrote-part (overlaid-wrote (said_to t line n) before (p.long, p.buffer)) (rw stays at (overlaid-wrote names (lent k filled) wrote))
