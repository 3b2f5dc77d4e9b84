-- `sweep_if_fits` meets its promise: from the arcs that lead to each row the array comes to mark the rows that are reached; these are counted, and
-- if they are few enough the others are freed. Assumes nothing.
use Prim.Native.Nat.{ℕ, ◌≤◌, ◌<◌}
use mathlib.Core.Path.{◌≡◌, refl, sym, ◌∙◌}
use mathlib.Core.Bool.{true, false}
use borrow.Author.Tests.{le-leb, lt-leb}
use lib.Dec.{leb}
use Rattle.letters.specs.LetterSet.{count_of}
use Rattle.rows.specs.Table.{row_count}
use Rattle.rows.specs.Reach.{reached}
use Rattle.reaching.proofs.Spreading.{reached-count}
use Rattle.settling.proofs.Sweeping.{marks-only}
use Rattle.settling.proofs.sweeps.sweep_if_fits.Goals as goal
use Rattle.settling.proofs.sweeps.sweep_if_fits.Goals.{After-count_marked}

too_many_lem : (a b n k : ℕ) → n ≡ a → k ≡ b → k < n → false ≡ leb a b
too_many_lem a b n k e d h = rw (← e, ← d) (sym (lt-leb n k h))

enough : (a b n k : ℕ) → n ≡ a → k ≡ b → n ≤ k → true ≡ leb a b
enough a b n k e d h = rw (← e, ← d) (sym (le-leb n k h))

counted : (c : After-count_marked) →
    let t = c.args.t.now in
    c.count_marked.result ≡ count_of (row_count t) (λ r. reached t r)
counted c = c.count_marked.ensures ∙ reached-count c.requires.0 c.mark_without.ensures

pub returns-then-room-count_marked : goal.returns-then-room-count_marked
returns-then-room-count_marked c =
    record { says = too_many_lem _ _ _ _ (counted (goal.at.returns-then-room-count_marked c).After-count_marked) c.room.ensures c.if-room-count_marked.true; table = refl }

pub returns : goal.returns
returns c =
    record {
      says = enough _ _ _ _ (counted (goal.at.returns c).After-count_marked) c.room.ensures c.if-room-count_marked.false;
      table = c.sweep_rows.ensures ∙ marks-only c.args.t.now _ _ c.requires.0.whole c.mark_without.ensures;
    }
