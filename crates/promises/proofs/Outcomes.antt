-- What holds of every call's outcome, and how a call leaves the table: it empties it, it reads it, or it is a change. Where a number is not 0 the
-- outcome is a refusal, because what is done has number 0. All theorems over the calls go by these, so that the calls are gone through only here.
-- Assumes nothing.
use Prim.Native.Nat.{ℕ, zero, suc, ◌<◌}
use native.Mathlib.Omega.{arith}
use mathlib.Core.Path.{◌≡◌, refl, subst}
use mathlib.Core.Bool.{cond}
use lib.ListN.{length, replicate}
use Rattle.sets.proofs.Membership.{In, here, there}
use Rattle.model.specs.Call.{Call, Book, Outcome}
use Rattle.model.specs.Call.Call.{empty, check, ask, next, add, remove, clear, load, load_two, combine, count, rank, nth, write, used}
use Rattle.model.specs.Refusals.{given, not_sound}
use Rattle.model.specs.Rules.{Rule}
use Rattle.model.specs.Run.{rule, refused, outcome, ruled, run}
use Rattle.model.proofs.Changes.{refused-or-done}
use Rattle.rows.specs.Table.{Table, length_ok}
use Rattle.promises.specs.Books.{book_of}
use Rattle.promises.specs.Walks.{ask_walk, next_walk}
use Rattle.promises.specs.Promises.{outcome_of, Becomes, Leaves}

-- what holds of a refusal, and of what is done, holds of what a rule comes to
pub ruled-either : (P : Outcome → Type 0) (b : Book) (r : Rule) → ((n : ℕ) → P (refused (suc n) b)) → P r.done → P (ruled b r)
ruled-either P b r stops goes = elim (given r.refusals) as (λ n. P (outcome b n r.done)) [ zero ↦ goes | suc n ↦ stops n ]

-- a number that is not 0 is that of a refusal
abbrev Refuses : Book → Outcome → Type 0
Refuses b o = 0 < o.number → o ≡ refused o.number b

ruled-refuses : (b : Book) (r : Rule) → r.done.number ≡ 0 → Refuses b (ruled b r)
ruled-refuses b r none = ruled-either (Refuses b) b r (λ n some. refl) (λ some. absurd (omega (arith, none)))

pub refused-outcome : (t : Table) (call : Call) → 0 < (outcome_of t call).number → outcome_of t call ≡ refused (outcome_of t call).number (book_of t)
unfolding run
refused-outcome t empty = ruled-refuses (book_of t) (rule (book_of t) empty) refl
refused-outcome t check = ruled-refuses (book_of t) (rule (book_of t) check) refl
refused-outcome t (ask m name) = ruled-refuses (book_of t) (ask_walk t m name) refl
refused-outcome t (next m prefix) = ruled-refuses (book_of t) (next_walk t m prefix) refl
refused-outcome t (add m name) = ruled-refuses (book_of t) (rule (book_of t) (add m name)) refl
refused-outcome t (remove m name) = ruled-refuses (book_of t) (rule (book_of t) (remove m name)) refl
refused-outcome t (clear m) = ruled-refuses (book_of t) (rule (book_of t) (clear m)) refl
refused-outcome t (load m list) = ruled-refuses (book_of t) (rule (book_of t) (load m list)) refl
refused-outcome t (load_two m first second) = ruled-refuses (book_of t) (rule (book_of t) (load_two m first second)) refl
refused-outcome t (combine op a b c) = ruled-refuses (book_of t) (rule (book_of t) (combine op a b c)) refl
refused-outcome t (count m) = ruled-refuses (book_of t) (rule (book_of t) (count m)) refl
refused-outcome t (rank m name) = ruled-refuses (book_of t) (rule (book_of t) (rank m name)) refl
refused-outcome t (nth m n size) = ruled-refuses (book_of t) (rule (book_of t) (nth m n size)) refl
refused-outcome t (write m size) = ruled-refuses (book_of t) (rule (book_of t) (write m size)) refl
refused-outcome t used = ruled-refuses (book_of t) (rule (book_of t) used) refl

-- a call that only reads: it leaves the table, and the lists
pub record Reading (call : Call) : Type 0 where
  pub table : (t after : Table) → Leaves t after call → after ≡ t
  pub lists : (b : Book) → (run b call).lists ≡ b.lists

-- a change: 7 refuses it, "book not sound"
pub record Changing (call : Call) : Type 0 where
  pub table : (t after : Table) → Leaves t after call → Becomes t after (run (book_of t) call)
  pub soundly : (b : Book) → In (not_sound b) (rule b call).refusals
  pub outcome : (t : Table) → outcome_of t call ≡ run (book_of t) call

-- every call is empty, or one that reads, or a change
pub data Kind (call : Call) : Type 0 where
  empties : call ≡ empty → Kind call
  reads : Reading call → Kind call
  changes : Changing call → Kind call

reading : (call : Call) → ((t after : Table) → Leaves t after call → after ≡ t) → ((b : Book) → (rule b call).done.lists ≡ b.lists) → Kind call
unfolding run
reading call table same = reads (record { table = table; lists = λ b. refused-or-done b (λ ls. ls) (rule b call) (same b) })

changing : (call : Call) → ((t after : Table) → Leaves t after call → Becomes t after (run (book_of t) call))
    → ((b : Book) → In (not_sound b) (rule b call).refusals) → ((t : Table) → outcome_of t call ≡ run (book_of t) call) → Kind call
changing call table soundly same = changes (record { table = table; soundly = soundly; outcome = same })

pub kind : (call : Call) → Kind call
kind empty = empties refl
kind check = reading check (λ t after p. p) (λ b. refl)
kind (ask m name) = reading (ask m name) (λ t after p. p) (λ b. refl)
kind (next m prefix) = reading (next m prefix) (λ t after p. p) (λ b. refl)
kind (add m name) = changing (add m name) (λ t after p. p) (λ b. there (there (there (here refl)))) (λ t. refl)
kind (remove m name) = changing (remove m name) (λ t after p. p) (λ b. there (there (there (here refl)))) (λ t. refl)
kind (clear m) = changing (clear m) (λ t after p. p) (λ b. there (there (here refl))) (λ t. refl)
kind (load m list) = changing (load m list) (λ t after p. p) (λ b. there (there (there (here refl)))) (λ t. refl)
kind (load_two m first second) =
    changing (load_two m first second) (λ t after p. p) (λ b. there (there (there (here refl)))) (λ t. refl)
kind (combine op x y z) = changing (combine op x y z) (λ t after p. p) (λ b. there (there (there (there (there (here refl)))))) (λ t. refl)
kind (count m) = reading (count m) (λ t after p. p) (λ b. refl)
kind (rank m name) = reading (rank m name) (λ t after p. p) (λ b. refl)
kind (nth m n size) = reading (nth m n size) (λ t after p. p) (λ b. refl)
kind (write m size) = reading (write m size) (λ t after p. p) (λ b. refl)
kind used = reading used (λ t after p. p) (λ b. refl)

-- the table that empty leaves
pub emptied : (t after : Table) {call : Call} → call ≡ empty → Leaves t after call → after ≡ cond (length_ok t) (replicate (length t) 0) t
emptied t after e p = subst (Leaves t after) e p
