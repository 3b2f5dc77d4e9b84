-- The chains grow row by row: a row behind all that are chained becomes the last of its kind, and the row that was the last is the one before
-- it. The other kinds have no row more. Assumes nothing.
use Prim.Native.Nat.{ℕ, suc, ◌+◌, ◌≤◌, ◌<◌}
use mathlib.Core.Path.{◌≡◌, refl, sym, ◌∙◌}
use mathlib.Core.Logic.{inl, inr}
use mathlib.Core.List.{List}
use native.Mathlib.Decide.{ℕ_discrete}
use native.Mathlib.Omega.{arith}
use lib.ListN.{length, get_or, set, length-set}
use lib.Seq.{get_or-set_same, get_or-set_other}
use Rattle.rows.specs.Table.{most_rows}
use Rattle.rows.proofs.Skipping.{lower-or-not}
use Rattle.chains.specs.Chains.{Latest, Chained, linked}

-- no row of the kind is behind the last one
pub latest-here : {of : ℕ → ℕ} {kind n r : ℕ} → Latest of kind n r → (q : ℕ) → q < n → of q ≡ kind → q ≤ r
latest-here {r} l q h e = elim (lower-or-not r q) [ inl above ↦ absurd (l.none q above h e) | inr here ↦ here ]

latest-more : {of : ℕ → ℕ} {kind n r : ℕ} → Latest of kind n r → (of n ≡ kind → ⊥) → Latest of kind (suc n) r
latest-more {n} l other =
    record {
      below = omega (arith, l.below);
      there = l.there;
      none = λ q above h e.
          elim (ℕ_discrete q n) [
            | yes d ↦ other (rw d at e)
            | no d ↦ l.none q above (omega arith) e
          ];
    }

latest-of : {of by : ℕ → ℕ} {kind n r : ℕ} → ((q : ℕ) → 0 < q → q < n → of q ≡ by q) → Latest of kind n r → Latest by kind n r
latest-of {r} same l =
    record {
      below = l.below;
      there = λ some. sym (same r some l.below) ∙ l.there some;
      none = λ q above h e. l.none q above h (same q (omega arith) h ∙ e);
    }

pub chained-of : {kinds : ℕ} {of by : ℕ → ℕ} {n : ℕ} {chains : List ℕ} → ((q : ℕ) → 0 < q → q < n → of q ≡ by q)
    → Chained kinds of n chains → Chained kinds by n chains
chained-of same c =
    record {
      long = c.long;
      most = c.most;
      lasts = λ kind h. latest-of same (c.lasts kind h);
      links = λ q some h. rw (sym (same q some h)) (latest-of (λ s above k. same s above (omega arith)) (c.links q some h));
    }

-- chains are what an array says at the places of the kinds and of the rows, and nothing behind them
pub chained_same : {kinds : ℕ} {of : ℕ → ℕ} {n : ℕ} {chains other : List ℕ} → length other ≡ length chains
    → ((i : ℕ) → i < kinds + most_rows → get_or other i 0 ≡ get_or chains i 0) → Chained kinds of n chains → Chained kinds of n other
chained_same {kinds} long same c =
    record {
      long = omega (arith, c.long);
      most = c.most;
      lasts = λ kind h. rw (same kind (omega arith)) (c.lasts kind h);
      links = λ q some h. rw (same (kinds + q) (omega (arith, c.most))) (c.links q some h);
    }

pub chained-none : (kinds : ℕ) (of : ℕ → ℕ) (chains : List ℕ) → kinds + most_rows ≤ length chains
    → ((i : ℕ) → i < kinds → get_or chains i 0 ≡ 0) → Chained kinds of 1 chains
chained-none kinds of chains long zeros =
    record {
      long = long;
      most = omega arith;
      lasts = λ kind h. rw (zeros kind h) (
          record { below = omega arith; there = λ some. absurd (omega arith); none = λ q above k e. omega arith }
          );
      links = λ q some h. absurd (omega arith);
    }

pub chained-link : {kinds : ℕ} {of : ℕ → ℕ} {r : ℕ} {chains : List ℕ} → Chained kinds of r chains → r < most_rows → of r < kinds
    → Chained kinds of (suc r) (linked chains kinds (of r) r)
chained-link {kinds} {of} {r} {chains} c most small =
    let long = c.long in
    let last = get_or chains (of r) 0 in
    let behind = set chains (kinds + r) last in
    record {
      long = simp length-set long;
      most = omega arith;
      lasts = λ kind h.
          elim (ℕ_discrete kind (of r)) [
            | yes d ↦
                rw (d, get_or-set_same behind (of r) r 0 (simp length-set (omega arith)))
                (record { below = omega arith; there = λ some. refl; none = λ q above k e. omega arith })
            | no d ↦
                rw (get_or-set_other behind (of r) kind r 0 d, get_or-set_other chains (kinds + r) kind last 0 (λ e. omega arith))
                (latest-more (c.lasts kind h) (λ e. d (sym e)))
          ];
      links = λ q some h.
          rw (get_or-set_other behind (of r) (kinds + q) r 0 (λ e. omega arith)) (
          elim (ℕ_discrete q r) [
            | yes d ↦ rw (d, get_or-set_same chains (kinds + r) last 0 (omega arith)) (c.lasts (of r) small)
            | no d ↦ rw (get_or-set_other chains (kinds + r) (kinds + q) last 0 (λ e. omega arith)) (c.links q some (omega arith))
          ]);
    }
