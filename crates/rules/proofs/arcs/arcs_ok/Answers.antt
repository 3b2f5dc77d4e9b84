use Prim.Native.Nat.{ℕ, suc, ◌+◌, ◌*◌, ◌≤◌, ◌<◌, max}
use mathlib.Core.Path.{◌≡◌, refl, sym, ap, subst, ◌∙◌}
use mathlib.Core.Bool.{Bool, true, false, ◌&&◌, ◌||◌}
use mathlib.Core.List.{List}
use native.Mathlib.Omega.{arith}
use native.Mathlib.Decide.{ℕ_discrete}
use borrow.Author.Rules.{rules}
use borrow.Author.Tests.{ne_eqb, eq-eqb, le-leb}
use lib.Dec.{eqb, leb}
use lib.ListN.{get_or}
use Rattle.std.specs.Ordering.{nat_cmp, ord_max}
use Rattle.letters.specs.Letters.{letters}
use Rattle.letters.specs.LetterSet.{flag}
use Rattle.letters.specs.Names.{longest}
use Rattle.letters.specs.Below.{all_below}
use Rattle.letters.proofs.Below.{not_all_below}
use Rattle.sets.specs.Below.{total, greatest}
use Rattle.rows.specs.Table.{Table, row_count, most_rows, mark, height, target, in_use}
use Rattle.rows.specs.Rules.{above, number39_ok, arcs_ok}
use Rattle.std.proofs.Common.{Some, None}
use Rattle.rules.specs.Demands.{demand_if, demands}
use Rattle.rows.specs.Skips.{NextArc}
use Rattle.rows.specs.Arcs.{Goes}
use Rattle.rows.specs.declared.arcs.Arcs.{Arcs}
use Rattle.rows.proofs.Stepping.{goes, gone}
use Rattle.index.specs.Buckets.{factor, mix, product_bound, key_from, row_key}
use Rattle.index.proofs.Buckets.{mix-none, mix-more, mix-zero}
use Rattle.index.proofs.Keeping.{keyed-more}
use Rattle.index.specs.Arcs.{Adds, Few}
use Rattle.index.proofs.Arcs.{adds_none, adds-both, arcs-most, arcs-more, arcs-zero}
use Rattle.rows.proofs.Skipping.{past}
use Rattle.rules.proofs.Writes.{not-passed, keyed-if}
use Rattle.rules.proofs.arcs.arcs_ok.Invariants.{Followed}
use Rattle.rules.proofs.arcs.arcs_ok.Goals as goal
use Rattle.rules.proofs.arcs.arcs_ok.Goals.{After-height}

-- a target that asks for a height is fine, and a broken one is not
demand-height : (fine : Bool) (top h : ℕ) → demand_if fine top ≡ Some h → (fine ≡ true) × (h ≡ top)
demand-height true top h e = (refl, cc)
demand-height false top h e = (cc, cc)

demand-broken : (fine : Bool) (top : ℕ) → demand_if fine top ≡ None → fine ≡ false
demand-broken true top e = cc
demand-broken false top e = refl

-- what `max` of two numbers says
max-is : (a b : ℕ) → ord_max nat_cmp a b ≡ max a b
max-is a b = grind arith

module _ (t : Table) (r : ℕ) where
  followed-none : {x : ℕ} (m : ℕ) (p : List ℕ) → x ≡ 0 → m ≡ mix (mark t r) (λ x. 0) 0 → m < product_bound → Followed t r x 0 m p p
  unfolding all_below total greatest
  followed-none m p none e small = rw none (record { fine = refl; asked = refl; mixes = e ∙ mix-none _ _ _; small = omega arith; counts = adds_none (λ s h. refl) })

  -- a fine target above 0 is a row in use
  used-target : (n s : ℕ) → (eqb n 0 || in_use t n) ≡ true → 0 < s → (in_use t n && eqb n s) ≡ eqb n s
  used-target n s fine h =
      elim (ℕ_discrete n 0) [ yes e ↦ rw (e, ne_eqb 0 s (λ d. omega arith)) | no e ↦ rw (rw (ne_eqb n 0 e) at fine) ]

  -- a letter without a target changes nothing
  followed-zero : {top m : ℕ} {p q : List ℕ} (x : ℕ) → target t r x ≡ 0 → Followed t r x top m p q → Followed t r (suc x) top m p q
  unfolding all_below greatest
  followed-zero x none before =
      record {
        fine = rw (before.fine, none);
        asked = rw none (omega (arith, before.asked));
        mixes = before.mixes ∙ sym (mix-zero _ (λ y. target t r y) x none);
        small = omega (arith, before.small);
        counts = adds-both {second = λ s. 0} before.counts (adds_none (λ s h. refl)) (λ s positive. omega (arith, arcs-zero t r x s positive none));
      }

  followed-skip : {y e top m : ℕ} {p q : List ℕ} → Followed t r y top m p q → NextArc t r y e → Followed t r e top m p q
  followed-skip {y} {e} {top} {m} {p} {q} before next =
      past (λ x. target t r x) (λ x. Followed t r x top m p q) followed-zero y e next.from next.none before

  -- one arc: the letters before it are skipped, and its target is followed
  followed-more : {s e : Arcs} {x n top h m m' : ℕ} {p q q' : List ℕ} → Goes t r s e x n → Followed t r s.from top m p q → demands t n ≡ Some h
      → Adds (λ s. flag (in_use t n && eqb n s)) q q' → m' ≡ m + n * factor x → m' < suc (suc x) * product_bound → Followed t r e.from (max top h) m' p q'
  unfolding all_below greatest
  followed-more {x = x} {n} {top} {h} {m} {m'} {p} {q} {q'} arc passed e one given small =
      let before : Followed t r x top m p q = followed-skip passed arc.next in
      let (fine, higher) = demand-height (eqb n 0 || in_use t n) (above t n) h e in
      subst (λ (y : ℕ). Followed t r y (max top h) m' p q') (sym arc.from) (record {
        fine = rw (before.fine, rw arc.to at fine);
        asked = rw (before.asked, higher, arc.to);
        mixes = given ∙ rw (before.mixes, arc.to) (mix-more _ (λ y. target t r y) x);
        small = small;
        counts = adds-both before.counts one (λ s positive. rw (used-target n s fine positive, arc.to) (arcs-more t r x s));
      })

  -- the rows below and the letters below leave place for one arc more
  place-for-one : {x top m : ℕ} {p q : List ℕ} → Followed t r x top m p q → Few (r * letters) p → r < row_count t → row_count t ≤ most_rows → x < letters
      → (n : ℕ) → 0 < n → get_or q n 0 < most_rows * letters
  place-for-one {x} before few row fits h n some = omega (arith, before.counts.adds n some, few n some, arcs-most t r x n)

  arcs-broken : (x n : ℕ) → x < letters → n ≡ target t r x → demands t n ≡ None → arcs_ok t r ≡ false
  arcs-broken x n h at e = rw (not_all_below _ letters x h (rw at at (demand-broken (eqb n 0 || in_use t n) (above t n) e)))

  arcs-left : {top m : ℕ} {p q : List ℕ} → Followed t r letters top m p q
      → arcs_ok t r ≡ (eqb (height t r) top && leb (height t r) longest && number39_ok t r)
  arcs-left all = rw (all.fine, ← all.asked)

pub loop-x-init : goal.loop-x-init
loop-x-init c =
    let args = c.args in
    let arcs = c.arcs_of-x-items.ensures in
    let (e, small) = c.mixed_mark-m.ensures in
    let of-mark = e ∙ ap (λ (k : ℕ). mix k (λ x. 0) 0) c.mark.ensures in
    rw c.into_iter-x-iterator.ensures.into_iter_gives
    (record { table = arcs.table; row = arcs.row }, followed-none args.t.now args.r _ _ arcs.from of-mark small)

pub follow-requires : goal.follow-requires
follow-requires c =
    let (arcs, passed) = c.loop-x.invariant in
    let one = goes arcs c.in-Some.ensures.steps in
    let before = followed-skip _ _ passed one.next in
    (search rules, λ some. place-for-one _ _ before c.requires.4 c.requires.0 c.requires.2 one.inside _ some)

pub returns-in_default-clause-tested : goal.returns-in_default-clause-tested
returns-in_default-clause-tested c =
    let (arcs, passed) = c.loop-x.invariant in
    let one = goes arcs c.in-Some.ensures.steps in
    let broken = sym c.follow.ensures.asked ∙ c.in_default.is in
    not-passed (sym (arcs-broken c.args.t.now c.args.r c.in-Some.x c.in-Some.n one.inside one.to broken)) (omega arith)

pub loop-x-preserved : goal.loop-x-preserved
loop-x-preserved c =
    let (arcs, passed) = c.loop-x.invariant in
    let one = goes arcs c.in-Some.ensures.steps in
    let asked = sym c.follow.ensures.asked ∙ c.in-Some-follow.is in
    let (mixes, small) = c.mixed-m.ensures in
    (one.still, rw (c.max-top.ensures, max-is c.loop-x.top c.in-Some-follow.h) (followed-more _ _ one passed asked c.follow.ensures.counted mixes small))

-- after the loop all letters are followed; what is left then is to compare the height, and number 39
all-followed : (c : After-height) →
    let l = c.loop-x in
    let args = c.args in
    Followed args.t.now args.r letters l.top l.m args.arcs.now l.arcs
all-followed c =
    let (arcs, passed) = c.loop-x.invariant in
    followed-skip _ _ passed (gone arcs c.in-None.ensures.steps)

left : (c : After-height) →
    let l = c.loop-x in
    let args = c.args in
    arcs_ok args.t.now args.r ≡ (eqb c.height.result l.top && leb c.height.result longest && number39_ok args.t.now args.r)
left c = arcs-left _ _ (all-followed c) ∙ rw c.height.ensures

pub returns-then-height-top-clause-tested : goal.returns-then-height-top-clause-tested
returns-then-height-top-clause-tested c =
    let differ = ne_eqb c.height.result c.loop-x.top (λ e. omega arith) in
    not-passed (rw (left (goal.at.returns-then-height-top-clause-tested c).After-height, differ)) (omega arith)

pub returns-clause-tested : goal.returns-clause-tested
returns-clause-tested c =
    let same = eq-eqb c.height.result c.loop-x.top (omega arith) in
    let low = le-leb c.height.result longest (omega arith) in
    record {
      says = rw (left (goal.at.returns-clause-tested c).After-height, same, low, c.number39.ensures);
      long = omega arith;
      counts = λ _. (all-followed (goal.at.returns-clause-tested c).After-height).counts;
    }

pub returns-clause-keyed : goal.returns-clause-keyed
returns-clause-keyed c =
    let t = c.args.t.now in
    let all = all-followed (goal.at.returns-clause-keyed c).After-height in
    let key : c.key_from.result ≡ row_key t c.args.r =
    c.key_from.ensures ∙ ap (λ (m : ℕ). key_from m) all.mixes in
    rw (c.keep_key.ensures, key) (keyed-if (keyed-more t c.args.r c.args.index.now c.requires.3 (omega (arith, c.requires.2))))
