-- Demand 3 as `used` says it: on a sound book its value is the fewest states of any automaton that has the sixteen lists. Assumes nothing.
use mathlib.Core.Path.{◌≡◌, ap}
use mathlib.Core.Bool.{true}
use mathlib.Core.List.{List}
use Prim.Native.Nat.{ℕ}
use Rattle.sets.specs.Automata.{Fewest}
use Rattle.sets.specs.Residuals.{need}
use Rattle.sets.proofs.Fewest.{need-fewest}
use Rattle.model.specs.Call.Call.{used}
use Rattle.model.specs.Run.{run}
use Rattle.rows.specs.Table.{Table}
use Rattle.rows.specs.Words.{lists}
use Rattle.rows.specs.Rules.{sound}
use Rattle.rows.proofs.Rules.{sound-length}
use Rattle.rows.proofs.Books.{lists-plain}
use Rattle.answers.specs.declared.replies.Reply.{Reply}
use Rattle.promises.specs.Books.{book_of}
use Rattle.promises.specs.Promises.{Promised}

used-value : (t : Table) → sound t ≡ true → (run (book_of t) used).value ≡ need (lists t)
unfolding run
used-value t e = rw (sound-length t e, e)

pub used-fewest : (t after : Table) (before filled : List ℕ) (reply : Reply) → sound t ≡ true → Promised t after before filled used reply
    → Fewest (lists t) reply.value
used-fewest t after before filled reply e p =
    rw (ap (λ (r : Reply). r.value) p.answers, used-value t e) (need-fewest (lists t) (lists-plain t))
