-- What settling a change comes to. Another start changes no state row, so the words of every row stay, the lists differ in that mission's
-- alone, and the table stays tidy: the new start's words are names, so its mark is 1. So as many rows are reached as the new lists need, and
-- the test against the room is the test of the lists. Where it passes, the swept table is a sound book with the new lists; where it fails, the
-- old table is swept, and that gives the book from which it was grown. A list without names always fits: what is reached without the start is
-- in use, and these rows fit. Assumes nothing.
use Prim.Native.Nat.{ℕ, ◌+◌, ◌*◌, ◌/◌, ◌≤◌, ◌<◌}
use native.Mathlib.Omega.{arith}
use native.Mathlib.Decide.{ℕ_discrete}
use mathlib.Core.Path.{◌≡◌, refl, sym, ◌∙◌, ap, subst}
use mathlib.Core.Bool.{Bool, true, false, cond, false≢true}
use mathlib.Core.Logic.{inl, inr}
use mathlib.Core.List.Memᴰ
use mathlib.Core.List.{List, [], ◌∷◌}
use lib.Dec.{leb}
use lib.ListN.{length, get_or, length-set}
use lib.Seq.{ext_get_or, get_or-set_same, get_or-set_other, set-get_or, set-set}
use borrow.Author.Tests.{leb-true, le-leb}
use Rattle.letters.specs.Letters.{letters}
use Rattle.letters.specs.Each.{Each}
use Rattle.letters.specs.LetterSet.{count_of}
use Rattle.sets.specs.Below.{total}
use Rattle.sets.specs.Sets.{member}
use Rattle.sets.specs.Residuals.{need}
use Rattle.sets.proofs.Membership.{In, here, there, cons-in}
use Rattle.sets.proofs.Below.{total-agree, over-in}
use Rattle.model.specs.Lists.{missions, list_of, replace}
use Rattle.model.proofs.Lists.{replace-same, replace-other}
use Rattle.model.proofs.Room.{need-cleared}
use Rattle.rows.specs.Table.{Table, width, row_count, start, starts, mark, target, in_use, room}
use Rattle.rows.specs.Words.{words, lists}
use Rattle.rows.specs.Rules.{sound}
use Rattle.rows.specs.Tidy.{Used, Named, Arc, Tidy}
use Rattle.rows.specs.Reach.{reached_from, reached}
use Rattle.rows.specs.Growth.{Grown}
use Rattle.rows.proofs.Facts.{used-same, row_inside}
use Rattle.rows.proofs.Cells.{same-mark, same_target}
use Rattle.rows.proofs.Rules.{sound-facts}
use Rattle.rows.proofs.Words.{words-none, mark-word}
use Rattle.rows.proofs.Reach.{reached-root, reached-arc, reached-all}
use Rattle.rows.proofs.Books.{start-in, start-named, lists-sixteen, list-names, starts-named}
use Rattle.rows.proofs.Growth.{words_same, lists-kept}
use Rattle.index.specs.Arcs.{arcs_of, arcs_to}
use Rattle.index.specs.Index.{ArcsAt}
use Rattle.reaching.specs.Leads.{ReachedWith}
use Rattle.minimal.proofs.Theorems.{used-need, starts-need}
use Rattle.settling.specs.Settled.{with_start, Startable, fits, Settles, Changed}
use Rattle.settling.proofs.Parts.{Part, part-tidy}
use Rattle.settling.proofs.Swept.{only-length, swept-grown, swept-lists, swept-sound}

pub no-row-startable : (t : Table) → Startable t 0
unfolding member
no-row-startable t = record { named = λ h. absurd (omega arith); no_empty = rw (words-none t 0 refl) }

module _ (t : Table) (m r : ℕ) (below : m < missions) where
  start-long : length (with_start t m r) ≡ length t
  start-long = length-set t m r

  -- the state rows stay
  start_cell : (s i : ℕ) → 0 < s → get_or (with_start t m r) (s * width + i) 0 ≡ get_or t (s * width + i) 0
  start_cell s i some = get_or-set_other t m (s * width + i) r 0 (λ e. omega arith)

  start-mark : (s : ℕ) → 0 < s → mark (with_start t m r) s ≡ mark t s
  start-mark s some = same-mark t (with_start t m r) s (λ i h. start_cell s i some)

  used-before : (s : ℕ) → Used (with_start t m r) s → Used t s
  used-before s p = used-same (sym start-long) (sym (start-mark s p.positive)) p

  used-after : (s : ℕ) → Used t s → Used (with_start t m r) s
  used-after s p = used-same start-long (start-mark s p.positive) p

  start-part : Tidy t → Part t (with_start t m r)
  start-part tidy =
      record {
        long = start-long;
        used = used-before;
        cells = λ s i p h. start_cell s i p.positive;
        targets = λ s x p a. used-after (target t s x) (tidy.targets s x a);
      }

  start-words : (n : ℕ) → words (with_start t m r) n ≡ words t n
  start-words n =
      words_same t (with_start t m r) (λ n. Unit {0}) start-long (λ n x p row h. tt)
      (λ n i p row h. start_cell n i (row_inside t n row).0) n tt

-- a start that is set back is as if it had never been set
pub start_back : (t v : Table) (m r old : ℕ) → v ≡ with_start t m r → old ≡ start t m → with_start v m old ≡ t
start_back t v m r old same at = rw (same, at) (set-set t m r (start t m) ∙ set-get_or t m 0)

module _ (t : Table) (m r : ℕ) (tidy : Tidy t) (below : m < missions) where
  start-same : start (with_start t m r) m ≡ r
  start-same = get_or-set_same t m r 0 (omega (arith, tidy.whole, tidy.least))

  pub start-tidy : Startable t r → Tidy (with_start t m r)
  start-tidy startable = part-tidy t (with_start t m r) (start-part t m r below tidy) tidy first rest zeros
    where
      -- "Each start is 0 or a row with mark 1"
      Fine : ℕ → Type 0
      Fine n = 0 < n → Used (with_start t m r) n × (mark (with_start t m r) n ≡ 1)

      fine : (n : ℕ) → Used t n → mark t n ≡ 1 → Used (with_start t m r) n × (mark (with_start t m r) n ≡ 1)
      fine n p one = (used-after t m r below n p, start-mark t m r below n p.positive ∙ one)

      first : (k : ℕ) → k < missions → Fine (start (with_start t m r) k)
      first k h =
          elim (ℕ_discrete k m) [
            | yes e ↦
                rw (e, start-same) (λ some.
                let p = startable.named some in
                fine r p (mark-word t tidy r p ∙ rw startable.no_empty))
            | no e ↦
                rw (get_or-set_other t m k r 0 e) (λ some.
                let (p, one) = tidy.starts k h some in
                fine (start t k) p one)
          ]

      rest : (i : ℕ) → missions ≤ i → i < width → get_or (with_start t m r) i 0 ≡ 0
      rest i low h = get_or-set_other t m i r 0 (λ e. omega arith) ∙ tidy.rest i low h

      zeros : (s i : ℕ) → 0 < s → s < row_count (with_start t m r) → mark (with_start t m r) s ≡ 0 → i < width
          → get_or (with_start t m r) (s * width + i) 0 ≡ 0
      zeros s i some inside free h =
          start_cell t m r below s i some
          ∙ tidy.zeros s i some (rw (start-long t m r below) at inside) (sym (start-mark t m r below s some) ∙ free) h

  start-lists : lists (with_start t m r) ≡ replace (lists t) m (words t r)
  start-lists =
      ext_get_or [] (lists (with_start t m r)) (replace (lists t) m (words t r))
      (lists-sixteen (with_start t m r) ∙ sym (length-set (lists t) m (words t r) ∙ lists-sixteen t)) list
    where
      list : (k : ℕ) → k < length (lists (with_start t m r)) → list_of (lists (with_start t m r)) k ≡ list_of (replace (lists t) m (words t r)) k
      list k h =
          let inside : k < missions = rw (lists-sixteen (with_start t m r)) at h in
          list-names (with_start t m r) k inside
          ∙ (start-words t m r below (start (with_start t m r) k)
          ∙ elim (ℕ_discrete k m) [
            | yes e ↦ rw (e, start-same) (sym (replace-same (lists t) m (words t r) (rw (lists-sixteen t) below)))
            | no e ↦
                rw (get_or-set_other t m k r 0 e)
                (sym (replace-other (lists t) m k (words t r) e ∙ list-names t k inside))
          ])

  start_fits : Startable t r
      → leb (count_of (row_count (with_start t m r)) (λ s. reached (with_start t m r) s)) (room (with_start t m r)) ≡ fits t m (words t r)
  start_fits startable =
      rw (starts-need (with_start t m r) (start-tidy startable), start-lists, start-long t m r below)

  -- the same, as `settle` tests it
  pub start-says : Startable t r → {v : Table} → v ≡ with_start t m r
      → leb (count_of (row_count v) (λ s. reached v s)) (room v) ≡ fits t m (words t r)
  start-says startable same = rw same (start_fits startable)

  -- what is reached from the starts and the new row is reached from the new starts and the old one
  module _ (startable : Startable t r) where
    abbrev v : Table
    v = with_start t m r

    neat : Tidy v
    neat = start-tidy startable

    abbrev roots : List ℕ
    roots = start t m ∷ starts v

    pub old-named : Named (with_start t m r) (start t m)
    old-named some = used-after t m r below (start t m) (start-named t tidy m below some)

    roots-named : Each (Named v) roots
    roots-named = (old-named, starts-named v neat)

    pub start-reached : ReachedWith t r → ReachedWith (with_start t m r) (start t m)
    start-reached all s p =
        reached-all t tidy (r ∷ starts t) (startable.named, starts-named t tidy) (λ s. reached_from v roots s ≡ true) root step s
        (all s (used-before t m r below s p))
      where
        old-root : (n : ℕ) → In n (starts t) → In n roots
        old-root n i =
            let (k, h, j) = over-in (λ k. start t k ∷ []) missions i in
            let same : n ≡ start t k = Memᴰ.eq_of_singleton j in
            elim (ℕ_discrete k m) [
              | yes e ↦ rw (same ∙ ap (λ (k : ℕ). start t k) e) (here refl)
              | no e ↦ there {xs = starts v} (rw (same, ← (get_or-set_other t m k r 0 e)) (start-in v k h))
            ]

        in-roots : (n : ℕ) → In n (r ∷ starts t) → In n roots
        in-roots n i =
            elim (cons-in i) [
              | inl e ↦ there {xs = starts v} (rw (e ∙ sym start-same) (start-in v m below))
              | inr j ↦ old-root n j
            ]

        root : (n : ℕ) → In n (r ∷ starts t) → Used t n → reached_from v roots n ≡ true
        root n i u = reached-root v neat roots roots-named n (in-roots n i) (used-after t m r below n u)

        step : (s x : ℕ) → Arc t s x → reached_from v roots s ≡ true → reached_from v roots (target t s x) ≡ true
        step s x a e =
            let same : target v s x ≡ target t s x = same_target t v s (λ i h. start_cell t m r below s i a.used.positive) x a.letter in
            let arc : Arc v s x = record { used = used-after t m r below s a.used; letter = a.letter; there = rw same a.there } in
            subst (λ (n : ℕ). reached_from v roots n ≡ true) same (reached-arc v neat roots roots-named s x e arc)

  -- and as many arcs lead to each row
  arcs-same : (s : ℕ) → arcs_to (with_start t m r) s ≡ arcs_to t s
  arcs-same s =
      total-agree (row_count (with_start t m r)) _ _ (λ q h. same q)
      ∙ ap (λ (n : ℕ). total (n / width) (λ q. arcs_of t q s)) (start-long t m r below)
    where
      same : (q : ℕ) → arcs_of (with_start t m r) q s ≡ arcs_of t q s
      same q =
          elim (ℕ_discrete q 0) [
            | yes e ↦ rw e
            | no e ↦
                rw (start-long t m r below, start-mark t m r below q (omega arith))
                (ap (λ (n : ℕ). cond (in_use t q) n 0) (total-agree letters _ _ (λ y h.
                rw (same_target t (with_start t m r) q (λ i g. start_cell t m r below q i (omega arith)) y h))))
          ]

  pub start-arcs : (index : List ℕ) → ArcsAt t index → ArcsAt (with_start t m r) index
  start-arcs index at s some inside = at s some (rw (start-long t m r below) at inside) ∙ sym (arcs-same s)

pub clear-fits : (t : Table) → sound t ≡ true → (m : ℕ) → fits t m [] ≡ true
clear-fits t e m =
    le-leb (need (replace (lists t) m [])) (room t) (omega (arith, need-cleared (lists t) m, used-need t e, (sound-facts t e).fits))

module _ (t u after : Table) (e : sound t ≡ true) (tidy : Tidy u) (grown : Grown t u) (m r : ℕ) (below : m < missions)
    (startable : Startable u r) where
  same_lists : lists u ≡ lists t
  same_lists = lists-kept t u grown (sound-facts t e).tidy

  same-fits : fits u m (words u r) ≡ fits t m (words u r)
  same-fits = rw (same_lists, grown.long)

  pub settled : (done : Bool) → Settles u after m r done → Changed t after m (words u r) done
  settled true s =
      let v = with_start u m r in
      let neat = start-tidy u m r tidy below startable in
      let enough = leb-true _ (room v) (start_fits u m r tidy below startable ∙ sym s.says) in
      record {
        says = s.says ∙ same-fits;
        refused = λ d. absurd (false≢true (sym d));
        long = ap length s.table ∙ (only-length v (λ r. reached v r) ∙ (start-long u m r below ∙ grown.long));
        sound = rw s.table (swept-sound v neat enough);
        lists = ap lists s.table ∙ (swept-lists v neat ∙ (start-lists u m r tidy below ∙ rw same_lists));
      }
  settled false s =
      let same : after ≡ t = s.table ∙ swept-grown t u e grown in
      record {
        says = s.says ∙ same-fits;
        refused = λ d. same;
        long = ap length same;
        sound = rw same e;
        lists = ap lists same;
      }
