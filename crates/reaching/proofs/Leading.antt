-- How much leads to a row. A row that loses one but keeps others leads where it did; a row that loses its last one takes its arcs with it, and
-- these are then owed to its targets, letter by letter. Where nothing is owed, what leads to a row is a start or an arc of a higher row that
-- something leads to as well: so the rows that something leads to are those reached from the starts. Assumes nothing.
use Prim.Native.Nat.{ℕ, zero, suc, ◌+◌, ◌-◌, ◌*◌, ◌≤◌, ◌<◌}
use native.Mathlib.Numerals.{add-one}
use native.Mathlib.Omega.{arith}
use native.Mathlib.Decide.{dec_lt, ℕ_discrete}
use mathlib.Core.Path.{◌≡◌, refl, sym, subst}
use mathlib.Core.Logic.{◌⊎◌, inl, inr}
use mathlib.Core.Bool.{Bool, true, false, cond}
use mathlib.Core.List.{List, [], ◌∷◌}
use borrow.Author.Tests.{eqb-true, eq-eqb, ne_eqb, ltb-true, lt-ltb}
use lib.Dec.{eqb, ltb}
use lib.ListN.{length, get_or, set, length-set}
use lib.Seq.{get_or-set_same, get_or-set_other}
use Rattle.letters.specs.Letters.{letters}
use Rattle.letters.specs.LetterSet.{flag}
use Rattle.letters.specs.Names.{longest}
use Rattle.letters.proofs.LetterSet.{flag-le}
use Rattle.sets.specs.Below.{total}
use Rattle.sets.proofs.Membership.{In, cons-in, nil-in}
use Rattle.sets.proofs.Below.{tests_agree, over-in, total-agree, total-but-one, total-some, total-one, total-more}
use Rattle.model.specs.Lists.{missions}
use Rattle.rows.specs.Table.{Table, row_count, most_rows, is_row, start, starts, height, target, in_use}
use Rattle.rows.specs.Tidy.{Used, Named, Arc, Tidy}
use Rattle.rows.specs.Skips.{NextArc}
use Rattle.rows.specs.Arcs.{Goes}
use Rattle.rows.specs.Reach.{reached}
use Rattle.rows.proofs.Facts.{row_inside, in-use-used, used-in-use}
use Rattle.rows.proofs.Reach.{reached-root, reached-arc, reached-all}
use Rattle.rows.proofs.Books.{start-in, starts-named}
use Rattle.rows.proofs.Skipping.{past}
use Rattle.index.specs.Arcs.{arcs_from, arcs_of, arcs_to, Arcs, Adds}
use Rattle.index.proofs.Arcs.{adds_none, adds-both, arcs-more, arcs-zero, arc-counted, counted-arc, below-most, row-counted}
use Rattle.reaching.specs.Marks.{Marks}
use Rattle.reaching.specs.Leads.{starts_at, led_arcs, leads_to, Owes, OwesOne, Releases, ReachedWith}

module _ (t : Table) where
  -- the starts, one by one
  starts_more : (m s : ℕ) → starts_at t (suc m) s ≡ starts_at t m s + flag (eqb (start t m) s)
  unfolding total
  starts_more m s = refl

  starts-most : (m s : ℕ) → starts_at t m s ≤ m
  unfolding total
  starts-most zero s = omega arith
  starts-most (suc m) s = omega (arith, starts-most m s, flag-le (eqb (start t m) s))

  pub starts_none : (p : List ℕ) → Adds (λ s. starts_at t 0 s) p p
  unfolding total
  starts_none p = adds_none (λ s h. refl)

  pub starts-one-more : {p q r : List ℕ} {n : ℕ} (m : ℕ) → Adds (λ s. starts_at t m s) p q → n ≡ start t m → Adds (λ s. flag (eqb n s)) q r
      → Adds (λ s. starts_at t (m + 1) s) p r
  starts-one-more m before at more = adds-both before more (λ s h. rw (add-one, at) (starts_more m s))

  -- a start is counted, and what is counted is one
  start-counted : (r : ℕ) → In r (starts t) → 0 < starts_at t missions r
  start-counted r i =
      let (m, h, at) = over-in (λ m. start t m ∷ []) missions i in
      omega (arith, total-one (λ m. flag (eqb (start t m) r)) missions m h, one m (same m at))
    where
      same : (m : ℕ) → In r (start t m ∷ []) → start t m ≡ r
      same m at = elim (cons-in at) [ inl e ↦ sym e | inr none ↦ absurd (nil-in none) ]

      one : (m : ℕ) → start t m ≡ r → flag (eqb (start t m) r) ≡ 1
      one m e = rw (eq-eqb (start t m) r e)

  counted_start : (s : ℕ) → 0 < starts_at t missions s → (m : ℕ) × (m < missions) × (start t m ≡ s)
  counted_start s h =
      let (m, below, some) = total-some (λ m. flag (eqb (start t m) s)) missions h in
      (m, below, same m (eqb (start t m) s) refl some)
    where
      same : (m : ℕ) (b : Bool) → eqb (start t m) s ≡ b → 0 < flag b → start t m ≡ s
      same m true e some = eqb-true (start t m) s e
      same m false e some = absurd (omega arith)

  -- the arcs of a row in use
  arcs-of-used : (r s : ℕ) → Used t r → arcs_of t r s ≡ arcs_from t r letters s
  arcs-of-used r s u = rw (used-in-use u)

  of-counted : (r x : ℕ) → Arc t r x → 0 < arcs_of t r (target t r x)
  of-counted r x a = rw (arcs-of-used r (target t r x) a.used) (arc-counted t r x (target t r x) a.letter refl)

  counted_of : (r s : ℕ) → 0 < s → 0 < arcs_of t r s → (x : ℕ) × Arc t r x × (target t r x ≡ s)
  counted_of r s some h = go (in_use t r) refl h
    where
      go : (b : Bool) → in_use t r ≡ b → 0 < cond b (arcs_from t r letters s) 0 → (x : ℕ) × Arc t r x × (target t r x ≡ s)
      go true e h =
          let (x, below, at) = counted-arc t r s h in
          (x, record { used = in-use-used t r e; letter = below; there = omega arith }, at)
      go false e h = absurd (omega arith)

-- one less at row n
abbrev less : List ℕ → ℕ → List ℕ
less p n = set p n (get_or p n 0 - 1)

-- what is still to be taken off, when row n leads nowhere any more and its arcs of the letters below x are taken off
pub record Paid (t : Table) (n x : ℕ) (leads : List ℕ) (debt : ℕ → ℕ) : Type 0 where
  pub long : row_count t ≤ length leads
  pub paid : (s : ℕ) → 0 < s → s < row_count t → get_or leads s 0 + arcs_from t n x s ≡ leads_to t leads s + debt s + arcs_from t n letters s

module _ {t : Table} {n : ℕ} {leads : List ℕ} (debt : ℕ → ℕ) (used : Used t n) (o : Owes t leads (λ s. debt s + flag (eqb n s))) where
  -- what is owed is there
  pub owed-there : 0 < get_or leads n 0
  owed-there = let one = rw (eq-eqb n n refl) at (o.owes n used.positive used.inside) in omega arith

  less-long : row_count t ≤ length (less leads n)
  less-long = rw (length-set leads n (get_or leads n 0 - 1)) o.long

  less-here : get_or (less leads n) n 0 ≡ get_or leads n 0 - 1
  less-here = get_or-set_same leads n (get_or leads n 0 - 1) 0 (omega (arith, o.long, used.inside))

  less-else : (s : ℕ) → (s ≡ n → ⊥) → get_or (less leads n) s 0 ≡ get_or leads s 0
  less-else s other = get_or-set_other leads n s (get_or leads n 0 - 1) 0 other

  less_one : (s : ℕ) → get_or (less leads n) s 0 + flag (eqb n s) ≡ get_or leads s 0
  less_one s =
      elim (ℕ_discrete s n) [
        | yes e ↦ rw (e, eq-eqb n n refl) (omega (arith, less-here, owed-there))
        | no e ↦ rw (ne_eqb n s (λ d. e (sym d))) (omega (arith, less-else s e))
      ]

  -- others still lead to the row
  kept-leads : 0 < get_or (less leads n) n 0 → (s : ℕ) → leads_to t (less leads n) s ≡ leads_to t leads s
  kept-leads some s = rw (total-agree (row_count t) _ _ (λ r h. same r))
    where
      same : (r : ℕ) → led_arcs t (less leads n) s r ≡ led_arcs t leads s r
      same r =
          elim (ℕ_discrete r n) [
            | yes e ↦ rw (e, lt-ltb 0 (get_or (less leads n) n 0) some, lt-ltb 0 (get_or leads n 0) owed-there)
            | no e ↦ rw (less-else r e)
          ]

  -- nothing does
  lost-leads : get_or (less leads n) n 0 ≡ 0 → (s : ℕ) → leads_to t leads s ≡ leads_to t (less leads n) s + arcs_from t n letters s
  lost-leads none s =
      omega (arith, total-but-one (row_count t) n (led_arcs t leads s) (led_arcs t (less leads n) s) used.inside same, here, gone)
    where
      same : (r : ℕ) → (r ≡ n → ⊥) → led_arcs t leads s r ≡ led_arcs t (less leads n) s r
      same r other = rw (less-else r other)

      here : led_arcs t leads s n ≡ arcs_from t n letters s
      here = rw (lt-ltb 0 (get_or leads n 0) owed-there) (arcs-of-used t n s used)

      gone : led_arcs t (less leads n) s n ≡ 0
      gone = rw none

  pub paid-at-once : 0 < get_or (less leads n) n 0 → Owes t (less leads n) debt
  paid-at-once some =
      record { long = less-long; owes = λ s h k. rw (kept-leads some s) (omega (arith, o.owes s h k, less_one s)) }

  pub paid-none : get_or (less leads n) n 0 ≡ 0 → Paid t n 0 (less leads n) debt
  unfolding total
  paid-none none =
      record { long = less-long; paid = λ s h k. omega (arith, o.owes s h k, less_one s, lost-leads none s) }

-- what is still to be taken off besides the arc of letter x: the arcs of the letters behind it, and whatever else
abbrev rest : Table → ℕ → ℕ → (ℕ → ℕ) → ℕ → ℕ
rest t n x debt s = debt s + (arcs_from t n letters s - arcs_from t n (suc x) s)

module _ {t : Table} {n x : ℕ} {leads : List ℕ} {debt : ℕ → ℕ} where
  -- the arc of the next letter is to be taken off
  pub paid-owes : Paid t n x leads debt → x < letters
      → Owes t leads (λ s. debt s + (arcs_from t n letters s - arcs_from t n (suc x) s) + flag (eqb (target t n x) s))
  paid-owes p h =
      record {
        long = p.long;
        owes = λ s some inside.
            omega (
              arith,
              p.paid s some inside,
              arcs-more t n x s,
              total-more (λ y. flag (eqb (target t n y) s)) (suc x) letters h,
            );
      }

  owes-paid : x < letters → Owes t leads (λ s. rest t n x debt s) → Paid t n (suc x) leads debt
  owes-paid h o =
      record {
        long = o.long;
        paid = λ s some inside. omega (arith, o.owes s some inside, total-more (λ y. flag (eqb (target t n y) s)) (suc x) letters h);
      }

  pub paid-past : {e : ℕ} → NextArc t n x e → Paid t n x leads debt → Paid t n e leads debt
  paid-past {e} next = past (λ y. target t n y) (λ y. Paid t n y leads debt) step x e next.from next.none
    where
      step : (y : ℕ) → target t n y ≡ 0 → Paid t n y leads debt → Paid t n (suc y) leads debt
      step y none p = record { long = p.long; paid = λ s some inside. rw (arcs-zero t n y s some none) (p.paid s some inside) }

pub paid-all : {t : Table} {n : ℕ} {leads : List ℕ} {debt : ℕ → ℕ} → Paid t n letters leads debt → Owes t leads debt
paid-all {t} {n} {leads} {debt} p = record { long = p.long; owes = λ s some inside. omega (arith, p.paid s some inside) }

-- a row that leads nowhere any more is released up to letter x: whatever else is to be taken off still is
abbrev pub Paying : Table → ℕ → List ℕ → List ℕ → ℕ → Type 0
Paying t n before now x = (debt : ℕ → ℕ) → Paid t n 0 before debt → Paid t n x now debt

pub paying-none : {t : Table} {n x : ℕ} {p : List ℕ} → x ≡ 0 → Paying t n p p x
paying-none none = λ debt paid. rw none paid

-- one arc of row n: the letters before it have no target
module _ {t : Table} {n : ℕ} {s e : _} {x m : ℕ} (next : Goes t n s e x m) where
  arc-of : Used t n → Arc t n x
  arc-of used = record { used = used; letter = next.inside; there = next.next.stops next.inside }

  pub end-used : Tidy t → Used t n → Used t m
  end-used tidy used = rw next.to (tidy.targets n x (arc-of used))

  pub end-lower : Tidy t → Used t n → height t m < height t n
  end-lower tidy used = rw next.to (tidy.lower n x (arc-of used))

  arc-owed : {leads : List ℕ} {debt : ℕ → ℕ} → Paid t n s.from leads debt → Owes t leads (λ i. rest t n x debt i + flag (eqb m i))
  arc-owed paid = rw next.to (paid-owes (paid-past next.next paid) next.inside)

  pub arc-owes : {leads : List ℕ} {debt : ℕ → ℕ} → Paid t n s.from leads debt → OwesOne t leads m
  arc-owes {debt = debt} paid = ((λ i. rest t n x debt i), arc-owed paid)

  pub paying-more : {before now later : List ℕ} → Paying t n before now s.from → Releases t m now later → Paying t n before later e.from
  paying-more {later = later} paying releases = λ debt paid.
      subst (λ (y : ℕ). Paid t n y later debt) (sym next.from)
      (owes-paid next.inside (releases (λ i. rest t n x debt i) (arc-owed (paying debt paid))))

module _ {t : Table} {leads : List ℕ} (tidy : Tidy t) (o : Owes t leads (λ s. 0)) where
  led-start : (r : ℕ) → In r (starts t) → Used t r → 0 < get_or leads r 0
  led-start r i u = omega (arith, start-counted t r i, o.owes r u.positive u.inside)

  led-target : (r x : ℕ) → Arc t r x → 0 < get_or leads r 0 → 0 < get_or leads (target t r x) 0
  led-target r x a some =
      let v = tidy.targets r x a in
      omega (
        arith,
        total-one (led_arcs t leads (target t r x)) (row_count t) r a.used.inside,
        here,
        of-counted t r x a,
        o.owes (target t r x) v.positive v.inside,
      )
    where
      here : led_arcs t leads (target t r x) r ≡ arcs_of t r (target t r x)
      here = rw (lt-ltb 0 (get_or leads r 0) some)

  -- what leads to a row
  abbrev Led : ℕ → Type 0
  Led s =
      ((m : ℕ) × (m < missions) × (start t m ≡ s))
      ⊎ ((r : ℕ) × (x : ℕ) × Arc t r x × (target t r x ≡ s) × (0 < get_or leads r 0))

  led : (s : ℕ) → 0 < s → s < row_count t → 0 < get_or leads s 0 → Led s
  led s some inside h =
      elim (dec_lt 0 (starts_at t missions s)) [
        | yes at ↦ inl (counted_start t s at)
        | no none ↦
            let (r, below, g) = total-some (led_arcs t leads s) (row_count t) (omega (arith, o.owes s some inside)) in
            inr (go r (ltb 0 (get_or leads r 0)) refl g)
      ]
    where
      go : (r : ℕ) (b : Bool) → ltb 0 (get_or leads r 0) ≡ b → 0 < cond b (arcs_of t r s) 0
          → (r : ℕ) × (x : ℕ) × Arc t r x × (target t r x ≡ s) × (0 < get_or leads r 0)
      go r true e g = let (x, a, at) = counted_of t r s some g in (r, x, a, at, ltb-true 0 (get_or leads r 0) e)
      go r false e g = absurd (omega arith)

  led-used : (s : ℕ) → 0 < s → Led s → Used t s
  led-used s some l =
      elim l [
        | inl p ↦ let (m, h, e) = p in rw e at (tidy.starts m h (rw e some)).0
        | inr p ↦ let (r, x, a, e, _) = p in rw e at (tidy.targets r x a)
      ]

  led-reached : (left s : ℕ) → Used t s → 0 < get_or leads s 0 → longest < height t s + left → reached t s ≡ true
  led-reached zero s u some h = absurd (omega (arith, tidy.low s u))
  led-reached (suc left) s u some h =
      elim (led s u.positive u.inside some) [
        | inl p ↦ let (m, g, e) = p in reached-root t tidy (starts t) (starts-named t tidy) s (rw e at (start-in t m g)) u
        | inr p ↦
            let (r, x, a, e, more) = p in
            let higher : height t s < height t r = rw e at (tidy.lower r x a) in
            rw e at (reached-arc t tidy (starts t) (starts-named t tidy) r x (led-reached left r a.used more (omega arith)) a)
      ]

  led-rows : (s : ℕ) → is_row t s ≡ true → ltb 0 (get_or leads s 0) ≡ reached t s
  led-rows s row = tests_agree _ _ there back
    where
      there : ltb 0 (get_or leads s 0) ≡ true → reached t s ≡ true
      there e =
          let (some, inside) = row_inside t s row in
          let leading = ltb-true 0 (get_or leads s 0) e in
          led-reached (suc longest) s (led-used s some (led s some inside leading)) leading (omega arith)

      back : reached t s ≡ true → ltb 0 (get_or leads s 0) ≡ true
      back e =
          lt-ltb 0 (get_or leads s 0)
          (reached-all t tidy (starts t) (starts-named t tidy) (λ r. 0 < get_or leads r 0) led-start led-target s e)

  pub led-marks : Marks t (λ s. reached t s) leads
  led-marks = record { long = o.long; marks = led-rows }

-- no more arcs lead to a row than there are letters in all rows, and the starts before m lead to their rows besides: one more fits
pub starts_fit : {t : Table} {arcs leads : List ℕ} (m n : ℕ) → Tidy t → Arcs t arcs → Adds (λ s. starts_at t m s) arcs leads → m ≤ missions
    → Named t n → 0 < n → get_or leads n 0 ≤ most_rows * letters + missions
starts_fit {t} m n tidy counted added h named some =
    omega (
      arith,
      counted.counts n some (named some).inside,
      below-most t (row_count t) n,
      tidy.most,
      added.adds n some,
      starts-most t m n,
    )

-- where every row in use is reached from the starts and one row more, all of them are led to; so only the row more is owed
module _ {t : Table} {more : ℕ} {arcs one both : List ℕ} (tidy : Tidy t) (named : Named t more) (counted : Arcs t arcs)
    (reach : ReachedWith t more) (first : Adds (λ s. starts_at t missions s) arcs one) (second : Adds (λ s. flag (eqb more s)) one both) where
  both_long : row_count t ≤ length both
  both_long = rw (second.long, first.long) counted.long

  counts : (s : ℕ) → 0 < s → s < row_count t → get_or both s 0 ≡ arcs_to t s + starts_at t missions s + flag (eqb more s)
  counts s some inside = omega (arith, counted.counts s some inside, first.adds s some, second.adds s some)

  leading : (r : ℕ) → Used t r → 0 < get_or both r 0
  leading r u = reached-all t tidy (more ∷ starts t) (named, starts-named t tidy) (λ r. 0 < get_or both r 0) root step r (reach r u)
    where
      root : (r : ℕ) → In r (more ∷ starts t) → Used t r → 0 < get_or both r 0
      root r i u =
          elim (cons-in i) [
            | inl e ↦
                let one : flag (eqb more r) ≡ 1 = rw (eq-eqb more r (sym e)) in
                omega (arith, counts r u.positive u.inside, one)
            | inr j ↦ omega (arith, counts r u.positive u.inside, start-counted t r j)
          ]

      step : (s x : ℕ) → Arc t s x → 0 < get_or both s 0 → 0 < get_or both (target t s x) 0
      step s x a _ =
          let v = tidy.targets s x a in
          omega (
            arith,
            counts (target t s x) v.positive v.inside,
            row-counted t (row_count t) s (target t s x) a.used.inside (of-counted t s x a),
          )

  all-lead : (s : ℕ) → leads_to t both s ≡ starts_at t missions s + arcs_to t s
  all-lead s = rw (total-agree (row_count t) _ _ (λ r h. go r (in_use t r) refl))
    where
      go : (r : ℕ) (b : Bool) → in_use t r ≡ b
          → cond (ltb 0 (get_or both r 0)) (cond b (arcs_from t r letters s) 0) 0 ≡ cond b (arcs_from t r letters s) 0
      go r true e = rw (lt-ltb 0 (get_or both r 0) (leading r (in-use-used t r e)))
      go r false e = none (ltb 0 (get_or both r 0))
        where
          none : (b : Bool) → ◌≡◌ {A = ℕ} (cond b 0 0) 0
          none true = refl
          none false = refl

  pub owes_more : Owes t both (λ s. 0 + flag (eqb more s))
  owes_more = record { long = both_long; owes = λ s some inside. omega (arith, counts s some inside, all-lead s) }

  pub owes-none : more ≡ 0 → Owes t both (λ s. 0)
  owes-none none =
      record {
        long = both_long;
        owes = λ s some inside. let no : flag (eqb more s) ≡ 0 = rw (none, ne_eqb 0 s (λ e. omega arith)) in
            omega (arith, counts s some inside, all-lead s, no);
      }
