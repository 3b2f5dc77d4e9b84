-- A line on a sound book: the book stays sound, its lists are the model's, and what is said is what sixteen plain sets say. Assumes nothing.
use Rattle.std.specs.Prelude.{Some, None}
use Prim.Native.Nat.{ℕ}
use mathlib.Core.Path.{◌≡◌, refl, ap}
use mathlib.Core.Bool.{true}
use mathlib.Core.List.{List, []}
use lib.ListN.{length}
use Rattle.model.specs.Run.{run}
use Rattle.rows.specs.Table.{Table}
use Rattle.rows.specs.Words.{lists}
use Rattle.rows.specs.Rules.{sound}
use Rattle.answers.specs.declared.replies.Reply.{Reply}
use Rattle.promises.specs.Books.{book_of}
use Rattle.promises.specs.Promises.{outcome_of, reply_to}
use Rattle.promises.proofs.AnyCalls.{kept}
use Rattle.printing.specs.Printed.{answer_line}
use Rattle.lines.specs.Requests.{Request, name_of, call_of}
use Rattle.lines.specs.Promises.{said, RequestLeaves}
use Rattle.lines.specs.Sessions.{lists_after_line}

pub record Kept (t after : Table) (line : List ℕ) (n : ℕ) (asked : Request) : Type 0 where
  pub fine : sound after ≡ true
  pub long : length after ≡ length t
  pub names : lists after ≡ lists_after_line (book_of t) line asked
  pub told : said (outcome_of t) line n asked ≡ said (run (book_of t)) line n asked

pub line_kept : (t after : Table) (line : List ℕ) (n : ℕ) (asked : Request) → sound t ≡ true → RequestLeaves t after line asked → Kept t after line n asked
line_kept t after line n (Some (kind, m)) s p =
    let call = call_of kind m (name_of line) in
    let k = kept t after [] [] call (reply_to t call) s p in
    record {
      fine = k.fine;
      long = k.long;
      names = k.names;
      told = ap (λ (r : Reply). answer_line line r.number r.value) k.said;
    }
line_kept t after line n None s same =
    record { fine = rw same s; long = rw same; names = rw same; told = refl }
