-- A renumbering of a sound book is a sound book. Every state row of u is the row `to r` of a state row r of t, and its forty numbers are those
-- of r with the targets carried along; so each rule but the last is carried over row by row. The words of each row of u are those of a row of
-- t, so they are left of t's lists, and u has no more rows in use than these need. Assumes nothing.
use Prim.Native.Nat.{ℕ, ◌+◌, ◌*◌, ◌≤◌, ◌<◌}
use native.Mathlib.Omega.{arith}
use native.Mathlib.Decide.{ℕ_discrete}
use mathlib.Core.Path.{◌≡◌, sym, ◌∙◌, ap}
use mathlib.Core.Bool.{true}
use mathlib.Core.Logic.{inl, inr}
use lib.ListN.{get_or}
use Rattle.letters.specs.Letters.{letters}
use Rattle.letters.specs.Names.{longest}
use Rattle.sets.specs.Residuals.{states}
use Rattle.sets.proofs.Membership.{In}
use Rattle.rows.specs.Table.{Table, width, is_row, start, mark, height, target, number39, room, used_rows}
use Rattle.rows.specs.Words.{words, lists}
use Rattle.rows.specs.Tidy.{Used, Arc, Tidy, Pointed, Sound}
use Rattle.rows.specs.Growth.{Useful}
use Rattle.rows.proofs.Facts.{row_inside, inside-row, used-row}
use Rattle.rows.proofs.Cells.{forty, free-height, free-target, free-number39}
use Rattle.minimal.specs.Renumbered.{Renumbered}
use Rattle.minimal.proofs.Carried.{to_none, each_row, to_one, to-words}
use Rattle.minimal.proofs.Places.{used-in-states, used-rows-need, useful-rows}

module _ (t u : Table) (by : Renumbered t u) where
  abbrev to : ℕ → ℕ
  to n = by.to n

  to_some : (n : ℕ) → 0 < to n → 0 < n
  to_some n h = elim (ℕ_discrete n 0) [ yes e ↦ absurd (omega (arith, ap by.to e ∙ to_none t u by)) | no e ↦ omega arith ]

  to-used : {r : ℕ} → Used t r → Used u (to r)
  to-used {r} p =
      let row = used-row p in
      let (positive, inside) = row_inside u (to r) (by.to_row r row) in
      record { positive = positive; inside = inside; marked = rw (by.marks r row) p.marked }

  each-used : (P : ℕ → Type 0) → ((r : ℕ) → Used t r → P (to r)) → (s : ℕ) → Used u s → P s
  each-used P f s p = each_row t u by (λ s. Used u s → P s) back s (used-row p) p
    where
      back : (r : ℕ) → is_row t r ≡ true → Used u (to r) → P (to r)
      back r row q =
          let (positive, inside) = row_inside t r row in
          f r (record { positive = positive; inside = inside; marked = rw (by.marks r row) at q.marked })

  module _ (tidy : Tidy t) where
    to-target : {r x : ℕ} → Used t r → x < letters → target u (to r) x ≡ to (target t r x)
    to-target {r} {x} p h = by.targets r x (used-row p) h

    to-height : {r : ℕ} → Used t r → height u (to r) ≡ height t r
    to-height {r} p = by.heights r (used-row p)

    arc-to : {r x : ℕ} → Arc t r x → Arc u (to r) x
    arc-to {r} {x} a =
        let e = to-target a.used a.letter in
        record { used = to-used a.used; letter = a.letter; there = rw e (to-used (tidy.targets r x a)).positive }

    target-height : {r x : ℕ} → Arc t r x → height u (target u (to r) x) ≡ height t (target t r x)
    target-height {r} {x} a = rw (to-target a.used a.letter) (to-height (tidy.targets r x a))

    each-arc : (P : ℕ → ℕ → Type 0) → ((r x : ℕ) → Arc t r x → P (to r) x) → (s x : ℕ) → Arc u s x → P s x
    each-arc P f s x a = each-used (λ s. Arc u s x → P s x) back s a.used a
      where
        back : (r : ℕ) → Used t r → Arc u (to r) x → P (to r) x
        back r p b =
            f r x (record { used = p; letter = b.letter; there = to_some (target t r x) (rw (to-target p b.letter) at b.there) })

    to-zeros : (r : ℕ) → is_row t r ≡ true → mark u (to r) ≡ 0 → (i : ℕ) → i < width → get_or u (to r * width + i) 0 ≡ 0
    to-zeros r row e =
        let free : mark t r ≡ 0 = sym (by.marks r row) ∙ e in
        forty u (to r) (λ n. n ≡ 0) e (by.heights r row ∙ free-height t tidy r row free)
        (λ x h. by.targets r x row h ∙ (ap by.to (free-target t tidy r row free x h) ∙ to_none t u by))
        (by.numbers39 r row ∙ free-number39 t tidy r row free)

    -- rows of u "agree in mark and all 37 targets"
    abbrev Alike : ℕ → ℕ → Type 0
    Alike r s = (mark u r ≡ mark u s) × ((x : ℕ) → x < letters → target u r x ≡ target u s x)

    to-apart : (r s : ℕ) → Used t r → Used t s → Alike (to r) (to s) → r ≡ s
    to-apart r s p q a =
        tidy.apart r s p q (cc (a.0, by.marks r (used-row p), by.marks s (used-row q)))
        (λ x h. to_one t u by (target t r x) (target t s x) (cc (a.1 x h, to-target p h, to-target q h)))

    to-tidy : Tidy u
    to-tidy =
        record {
          whole = rw by.long tidy.whole;
          least = rw by.long tidy.least;
          most = rw by.long tidy.most;
          starts = λ m h some.
              let e = by.starts m h in
              let (p, one) = tidy.starts m h (to_some (start t m) (rw e at some)) in
              rw e (to-used p, by.marks _ (used-row p) ∙ one);
          rest = λ i low high. by.rest i low high ∙ tidy.rest i low high;
          marks = each-used (λ s. mark u s ≤ 2) (λ r p. rw (by.marks r (used-row p)) (tidy.marks r p));
          zeros = λ s i positive inside e h.
              each_row t u by (λ s. mark u s ≡ 0 → get_or u (s * width + i) 0 ≡ 0) (λ r row d. to-zeros r row d i h)
              s (inside-row u s positive inside) e;
          targets = each-arc (λ s x. Used u (target u s x))
              (λ r x a. rw (to-target a.used a.letter) (to-used (tidy.targets r x a)));
          lower = each-arc (λ s x. height u (target u s x) < height u s)
              (λ r x a. rw (target-height a, to-height a.used) (tidy.lower r x a));
          tight = λ s top.
              each-used (λ s. ((x : ℕ) → Arc u s x → height u (target u s x) < top) → height u s ≤ top)
              (λ r p f. rw (to-height p) (tidy.tight r top p (λ x a. rw (target-height a) at (f x (arc-to a))))) s;
          low = each-used (λ s. height u s ≤ longest) (λ r p. rw (to-height p) (tidy.low r p));
          numbers39 = each-used (λ s. number39 u s ≡ 0) (λ r p. by.numbers39 r (used-row p) ∙ tidy.numbers39 r p);
          arc = each-used (λ s. mark u s ≡ 1 → (x : ℕ) × Arc u s x)
              (λ r p e. let (x, a) = tidy.arc r p (sym (by.marks r (used-row p)) ∙ e) in (x, arc-to a));
          apart = λ r s p q e f.
              each-used (λ r. Alike r s → r ≡ s)
              (λ r p. each-used (λ s. Alike (to r) s → to r ≡ s) (λ s q a. ap by.to (to-apart r s p q a)) s q) r p (e, f);
        }

    to-pointed : ((r : ℕ) → Used t r → Pointed t r) → (s : ℕ) → Used u s → Pointed u s
    to-pointed pointed = each-used (Pointed u) (λ r p. go (pointed r p))
      where
        go : {r : ℕ} → Pointed t r → Pointed u (to r)
        go (inl (m, h, e)) = inl (m, h, by.starts m h ∙ ap by.to e)
        go (inr (q, x, a, e)) = inr (to q, x, arc-to a, to-target a.used a.letter ∙ ap by.to e)

pub renumbered-sound : (t u : Table) → Renumbered t u → Sound t → Sound u
renumbered-sound t u by facts =
    let tidy = to-tidy t u by facts.tidy in
    let useful : Useful (lists t) u =
    each-used t u by (λ s. In (words u s) (states (lists t))) (λ r p. rw (to-words t u by r) (used-in-states t facts r p))
    in
    let fits : used_rows u ≤ room u = omega (arith, useful-rows u tidy (lists t) useful, used-rows-need t facts) in
    record { tidy = tidy; pointed = to-pointed t u by facts.tidy facts.pointed; fits = fits }
