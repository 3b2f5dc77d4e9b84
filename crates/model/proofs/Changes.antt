-- A call leaves every list the same that it may not change: a refusal leaves all, and what is done replaces one. And a change is done, with a
-- value above 0, only on a sound book. Assumes nothing.
use Prim.Native.Nat.{ℕ, zero, suc, ◌<◌}
use native.Mathlib.Omega.{arith}
use mathlib.Core.Path.{◌≡◌, refl, sym}
use mathlib.Core.Bool.{true, false, not, false≢true}
use mathlib.Core.List.{List}
use lib.Dec.{eqb}
use borrow.Author.Tests.{eqb-false, not-false}
use Rattle.sets.specs.Sets.{Words}
use Rattle.sets.proofs.Membership.{In}
use Rattle.model.specs.Lists.{list_of, replace}
use Rattle.model.specs.Call.{Call, Book}
use Rattle.model.specs.Call.Call.{empty, check, ask, next, add, remove, clear, load, load_two, combine, count, rank, nth, write, used}
use Rattle.model.specs.Refusals.{given, not_sound}
use Rattle.model.specs.Rules.{Rule}
use Rattle.model.specs.Run.{rule, outcome, ruled, run}
use Rattle.model.specs.Changes.{changes}
use Rattle.model.proofs.Lists.{replace-other}
use Rattle.model.proofs.Refusals.{none-applies}

-- a call comes to what its rule comes to
pub run-ruled : (b : Book) (c : Call) → run b c ≡ ruled b (rule b c)
unfolding run
run-ruled b c = refl

-- 0, "done"
pub done-number : (b : Book) (c : Call) → (rule b c).done.number ≡ 0
done-number b empty = refl
done-number b check = refl
done-number b (ask m name) = refl
done-number b (next m prefix) = refl
done-number b (add m name) = refl
done-number b (remove m name) = refl
done-number b (clear m) = refl
done-number b (load m bytes) = refl
done-number b (load_two m first second) = refl
done-number b (combine op x y z) = refl
done-number b (count m) = refl
done-number b (rank m name) = refl
done-number b (nth m n size) = refl
done-number b (write m size) = refl
done-number b used = refl

module _ (b : Book) where
  -- whatever is read of the lists
  pub refused-or-done : {A : Type 0} (read : List Words → A) (r : Rule) → read r.done.lists ≡ read b.lists
      → read (ruled b r).lists ≡ read b.lists
  refused-or-done read r e =
      elim (given r.refusals) as (λ k. read (outcome b k r.done).lists ≡ read b.lists) [ zero ↦ e | suc k ↦ refl ]

  replaced : (r : Rule) (n m : ℕ) (l : Words) → r.done.lists ≡ replace b.lists m l → eqb n m ≡ false
      → list_of (ruled b r).lists n ≡ list_of b.lists n
  replaced r n m l e other = refused-or-done (λ ls. list_of ls n) r (rw e (replace-other b.lists m n l (eqb-false n m other)))

  pub run-others : (c : Call) (n : ℕ) → changes c n ≡ false → list_of (run b c).lists n ≡ list_of b.lists n
  unfolding run
  run-others empty n other = absurd (false≢true (sym other))
  run-others (add m name) n other = replaced (rule b (add m name)) n m _ refl other
  run-others (remove m name) n other = replaced (rule b (remove m name)) n m _ refl other
  run-others (clear m) n other = replaced (rule b (clear m)) n m _ refl other
  run-others (load m bytes) n other = replaced (rule b (load m bytes)) n m _ refl other
  run-others (load_two m first second) n other = replaced (rule b (load_two m first second)) n m _ refl other
  run-others (combine op x y z) n other = replaced (rule b (combine op x y z)) n z _ refl other
  run-others check n other = refused-or-done (λ ls. list_of ls n) (rule b check) refl
  run-others (ask m name) n other = refused-or-done (λ ls. list_of ls n) (rule b (ask m name)) refl
  run-others (next m prefix) n other = refused-or-done (λ ls. list_of ls n) (rule b (next m prefix)) refl
  run-others (count m) n other = refused-or-done (λ ls. list_of ls n) (rule b (count m)) refl
  run-others (rank m name) n other = refused-or-done (λ ls. list_of ls n) (rule b (rank m name)) refl
  run-others (nth m k size) n other = refused-or-done (λ ls. list_of ls n) (rule b (nth m k size)) refl
  run-others (write m size) n other = refused-or-done (λ ls. list_of ls n) (rule b (write m size)) refl
  run-others used n other = refused-or-done (λ ls. list_of ls n) (rule b used) refl

  -- a call that 7 refuses, "book not sound", comes to a value above 0 only on a sound book
  pub done-sound : (c : Call) → In (not_sound b) (rule b c).refusals → 0 < (run b c).value → b.sound ≡ true
  unfolding run
  done-sound c i h = not-false b.sound (go (given (rule b c).refusals) refl h)
    where
      go : (n : ℕ) → given (rule b c).refusals ≡ n → 0 < (outcome b n (rule b c).done).value → not b.sound ≡ false
      go zero e some = none-applies b c (not_sound b) i e
      go (suc n) e some = absurd (omega arith)
