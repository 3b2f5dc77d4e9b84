-- What filling an empty list comes to. Every row that is made for the list is needed by the lists after the change, and so is every row that was
-- in use, since the list was empty before. So when all rows are in use, the lists after need more states than there is room; and the sweep
-- gives back the book from which the table was grown. A row that was made is settled. Assumes nothing.
use Prim.Native.Nat.{ℕ, ◌<◌}
use native.Mathlib.Omega.{arith}
use native.Mathlib.Decide.{ℕ_discrete}
use mathlib.Core.Path.{◌≡◌, refl, sym, ◌∙◌, ap}
use mathlib.Core.Logic.{inl, inr}
use mathlib.Core.Bool.{Bool, true, false, cond}
use mathlib.Core.List.{List, []}
use lib.ListN.{length, get_or, length-set}
use lib.Seq.{set-get_or}
use borrow.Author.Tests.{lt-leb}
use Rattle.sets.specs.Sets.{Words, Filled, member}
use Rattle.sets.specs.Residuals.{states, need}
use Rattle.sets.proofs.Membership.{In}
use Rattle.sets.proofs.States.{list-in-states, after-in-states, states-all}
use Rattle.model.specs.Lists.{missions, list_of, replace}
use Rattle.model.proofs.Lists.{replace-same, replace-other}
use Rattle.rows.specs.Table.{Table, room, start}
use Rattle.rows.specs.Words.{lists}
use Rattle.rows.specs.Rules.{sound}
use Rattle.rows.specs.Growth.{Useful}
use Rattle.rows.specs.Reach.{swept}
use Rattle.rows.proofs.Rules.{sound-facts}
use Rattle.rows.proofs.Facts.{named-cases}
use Rattle.rows.proofs.Words.{has_word}
use Rattle.rows.proofs.Books.{lists-sixteen, no_start}
use Rattle.minimal.proofs.Theorems.{useful-need, sound-useful}
use Rattle.growing.specs.Growing.{MadeRow, MadeFull}
use Rattle.settling.specs.Settled.{with_start, Startable, Settles, Changed}
use Rattle.settling.proofs.Settling.{settled}
use Rattle.settling.proofs.Swept.{swept-grown}

module _ (t : Table) (s : sound t ≡ true) (m : ℕ) (h : m < missions) (empty : start t m ≡ 0) where
  module _ (l : Words) where
    abbrev new : List Words
    new = replace (lists t) m l

    inside : m < length (lists t)
    inside = rw (lists-sixteen t) h

    long : length new ≡ length (lists t)
    long = length-set (lists t) m l

    list-needed : Filled l → In l (states new)
    list-needed some =
        let here : list_of new m ≡ l = replace-same (lists t) m l inside in
        rw here at (list-in-states new m (rw long inside) (rw here some))

    -- what the lists needed before they need after
    still-needed : {k : Words} → In k (states (lists t)) → In k (states new)
    still-needed = states-all (λ k. In k (states new)) (λ x g k i f. after-in-states new i x g f) (lists t) list
      where
        list : (n : ℕ) → n < length (lists t) → Filled (get_or (lists t) n []) → In (get_or (lists t) n []) (states new)
        list n g some =
            elim (ℕ_discrete n m) [
              | yes e ↦ absurd (rw (e, no_start t m h empty) at some)
              | no e ↦
                  let same = replace-other (lists t) m n l e in
                  rw same at (list-in-states new n (rw long g) (rw same some))
            ]

    still-useful : Useful new t
    still-useful r p = still-needed (sound-useful t s r p)

    -- no row is free
    pub full-changed : (u after : Table) (most : ℕ) → MadeFull most t u l → after ≡ swept u → Changed t after m l false
    full-changed u after most full e =
        let enough = useful-need u full.grows.tidy new (full.grows.useful new list-needed still-useful) in
        let same : after ≡ t = e ∙ swept-grown t u s full.grows.grown in
        record {
          says = sym (lt-leb (need new) (room t) (omega (arith, enough, full.full, full.grows.grown.long, (sound-facts t s).tidy.least)));
          refused = λ _. same;
          long = ap length same;
          sound = rw same s;
          lists = ap lists same;
        }

    -- a row was made, and settled
    module _ (u : Table) (most r : ℕ) (made : MadeRow most t u l r) (names : member [] l ≡ false) where
      pub row-startable : Startable u r
      row-startable = record { named = made.named; no_empty = rw made.has names }

      module _ (after : Table) (done : Bool) (settles : Settles u after m r done) where
        pub row-changed : Changed t after m l done
        row-changed =
            rw made.has at (settled t u after s made.grows.tidy made.grows.grown m r h row-startable done settles)

        -- no words, no row: the start is as it was, and the sweep gives back the book
        pub row_same : l ≡ [] → after ≡ t
        row_same none = settles.table ∙ (ap swept (same done) ∙ swept-grown t u s made.grows.grown)
          where
            no-new : r ≡ 0
            no-new =
                elim (named-cases made.named) [
                  | inl p ↦ absurd (rw (made.has, none) at (has_word u made.grows.tidy r p))
                  | inr e ↦ e
                ]

            kept : with_start u m r ≡ u
            kept =
                let old : start u m ≡ 0 = made.grows.grown.head m (omega arith) ∙ empty in
                rw (no-new ∙ sym old) (set-get_or u m 0)

            same : (b : Bool) → cond b (with_start u m r) u ≡ u
            same true = kept
            same false = refl
