-- How a function meets the promise of its call: a call that is lent no answer buffer writes nothing, so its reply and its table are all there is
-- to say. Assumes nothing.
use mathlib.Core.Path.{◌≡◌, refl, sym, ◌∙◌, ap}
use mathlib.Core.Bool.{Bool, true, false, false≢true}
use mathlib.Core.List.{[]}
use Rattle.model.specs.Call.{Call, Outcome}
use Rattle.model.specs.Call.Call.{empty, check, ask, next, add, remove, clear, load, load_two, combine, count, rank, nth, write, used}
use Rattle.model.specs.Run.{rule, refused, run}
use Rattle.rows.specs.Table.{Table}
use Rattle.answers.specs.declared.cases.Refusal.{Refusal}
use Rattle.answers.specs.declared.replies.Reply.{Reply}
use Rattle.answers.specs.Replies.{refusal_number, reply_of, refused_reply}
use Rattle.promises.specs.Books.{book_of}
use Rattle.promises.specs.Walks.{ask_walk, next_walk}
use Rattle.promises.specs.Promises.{outcome_of, reply_to, Becomes, Changes, Leaves, Promised}
use Rattle.promises.proofs.Outcomes.{ruled-either}

-- is the call lent an answer buffer?
abbrev pub has_buffer : Call → Bool
has_buffer (nth m n size) = true
has_buffer (write m size) = true
has_buffer empty = false
has_buffer check = false
has_buffer (ask m name) = false
has_buffer (next m prefix) = false
has_buffer (add m name) = false
has_buffer (remove m name) = false
has_buffer (clear m) = false
has_buffer (load m list) = false
has_buffer (load_two m first second) = false
has_buffer (combine op a b c) = false
has_buffer (count m) = false
has_buffer (rank m name) = false
has_buffer used = false

abbrev Unwritten : Outcome → Type 0
Unwritten o = o.written ≡ []

unwritten : (t : Table) (call : Call) → has_buffer call ≡ false → (outcome_of t call).written ≡ []
unfolding run
unwritten t (nth m n size) none = absurd (false≢true (sym none))
unwritten t (write m size) none = absurd (false≢true (sym none))
unwritten t empty none = ruled-either Unwritten (book_of t) (rule (book_of t) empty) (λ n. refl) refl
unwritten t check none = ruled-either Unwritten (book_of t) (rule (book_of t) check) (λ n. refl) refl
unwritten t (ask m name) none = ruled-either Unwritten (book_of t) (ask_walk t m name) (λ n. refl) refl
unwritten t (next m prefix) none = ruled-either Unwritten (book_of t) (next_walk t m prefix) (λ n. refl) refl
unwritten t (add m name) none = ruled-either Unwritten (book_of t) (rule (book_of t) (add m name)) (λ n. refl) refl
unwritten t (remove m name) none = ruled-either Unwritten (book_of t) (rule (book_of t) (remove m name)) (λ n. refl) refl
unwritten t (clear m) none = ruled-either Unwritten (book_of t) (rule (book_of t) (clear m)) (λ n. refl) refl
unwritten t (load m list) none = ruled-either Unwritten (book_of t) (rule (book_of t) (load m list)) (λ n. refl) refl
unwritten t (load_two m first second) none =
    ruled-either Unwritten (book_of t) (rule (book_of t) (load_two m first second)) (λ n. refl) refl
unwritten t (combine op a b c) none = ruled-either Unwritten (book_of t) (rule (book_of t) (combine op a b c)) (λ n. refl) refl
unwritten t (count m) none = ruled-either Unwritten (book_of t) (rule (book_of t) (count m)) (λ n. refl) refl
unwritten t (rank m name) none = ruled-either Unwritten (book_of t) (rule (book_of t) (rank m name)) (λ n. refl) refl
unwritten t used none = ruled-either Unwritten (book_of t) (rule (book_of t) used) (λ n. refl) refl

pub promises : (t after : Table) (call : Call) (reply : Reply) → has_buffer call ≡ false → Leaves t after call → reply ≡ reply_to t call
    → Promised t after [] [] call reply
promises t after call reply none leaves answers = record { answers = answers; buffer = rw (unwritten t call none); table = leaves }

-- it is refused
pub promises-refused : (t : Table) (call : Call) (why : Refusal) → has_buffer call ≡ false → Leaves t t call
    → outcome_of t call ≡ refused (refusal_number why) (book_of t) → Promised t t [] [] call (refused_reply why)
promises-refused t call why none leaves e = promises t t call (refused_reply why) none leaves (sym (ap reply_of e))

-- it is a change
pub promises-change : (t after : Table) (call : Call) (reply : Reply) → has_buffer call ≡ false
    → (Becomes t after (run (book_of t) call) → Leaves t after call) → outcome_of t call ≡ run (book_of t) call → Changes t after call reply
    → Promised t after [] [] call reply
promises-change t after call reply none leaves same p =
    promises t after call reply none (leaves p.becomes) (p.answers ∙ sym (ap reply_of same))
