use Prim.Native.Nat.{ℕ, ◌+◌, ◌-◌, ◌≤◌, ◌<◌}
use mathlib.Core.Path.{◌≡◌, sym, ◌∙◌}
use mathlib.Core.Bool.{true, false, and-false}
use mathlib.Core.List.{List}
use native.Mathlib.Omega.{arith}
use lib.ListN.{length, take, drop, drop_of_length-le}
use Rattle.letters.specs.Names.{is_name}
use Rattle.letters.specs.Lists.{name_end, lines_of, ended}
use Rattle.letters.proofs.Lines.{name-part, lines_at, ended-more, ended-none}
use Rattle.letters.proofs.lists.all_names.Invariants.{all_names}
use Rattle.letters.proofs.lists.all_names.Goals as goal

-- at a place: the name there has no end, it is no name, or it is one and has its end
module _ (s : List ℕ) (at end : ℕ) (h : at < length s) (ends : end ≡ name_end s at) where
  no_end : length s ≤ end → all_names (drop at s) ≡ false
  no_end l = rw (ended-none s at h (rw ends at l))

  no_name_lem : is_name (take (end - at) (drop at s)) ≡ false → all_names (drop at s) ≡ false
  no_name_lem e = rw (lines_at s at h, rw (ends, name-part s at) at e) (and-false (ended (drop at s)))

  one_name : end < length s → is_name (take (end - at) (drop at s)) ≡ true → all_names (drop at s) ≡ all_names (drop (end + 1) s)
  one_name l e = rw (ends, ended-more s at h (rw ends at l), lines_at s at h, rw (ends, name-part s at) at e)

pub returns-then-s-end : goal.returns-then-s-end
returns-then-s-end c =
    sym (c.loop-at.invariant ∙ no_end _ _ _ c.loop-at-test.true c.name_end-end.ensures (omega arith))

pub returns-then-not-is_name : goal.returns-then-not-is_name
returns-then-not-is_name c =
    sym (c.loop-at.invariant
    ∙ no_name_lem _ _ _ c.loop-at-test.true c.name_end-end.ensures
    (sym c.is_name.ensures ∙ c.if-not-is_name.true))

pub loop-at-preserved : goal.loop-at-preserved
loop-at-preserved c =
    c.loop-at.invariant
    ∙ one_name _ _ _ c.loop-at-test.true c.name_end-end.ensures c.if-s-end.false
    (sym c.is_name.ensures ∙ c.if-not-is_name.false)

pub returns : goal.returns
unfolding ended lines_of
returns c = rw (c.loop-at.invariant, drop_of_length-le _ c.loop-at-test.false)
