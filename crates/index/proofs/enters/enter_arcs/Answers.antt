use Prim.Native.Nat.{ℕ, suc, ◌+◌, ◌<◌}
use mathlib.Core.Path.{◌≡◌, sym, ◌∙◌}
use mathlib.Core.List.{List}
use native.Mathlib.Decide.{ℕ_discrete}
use native.Mathlib.Omega.{arith}
use borrow.Author.Tests.{eq-eqb, ne_eqb}
use lib.Dec.{eqb}
use lib.ListN.{get_or, set, length-set}
use lib.Seq.{get_or-set_same, get_or-set_other}
use Rattle.letters.specs.Letters.{letters}
use Rattle.letters.specs.LetterSet.{flag}
use Rattle.rows.specs.Table.{Table, row_count, target}
use Rattle.rows.specs.Skips.{NextArc}
use Rattle.rows.specs.Arcs.{Goes}
use Rattle.rows.specs.declared.arcs.Arcs.{Arcs}
use Rattle.rows.proofs.Stepping.{goes, gone}
use Rattle.rows.proofs.Skipping.{past}
use Rattle.chains.proofs.Chains.{chained_same}
use Rattle.index.specs.Arcs.{arcs_from}
use Rattle.index.specs.Index.{key_place, arcs_place, index_length, Entering}
use Rattle.index.proofs.Arcs.{arcs-more, arcs-zero, arcs-fewer, below-most}
use Rattle.index.proofs.enters.enter_arcs.Goals as goal

entering-at : {t : Table} {r x y : ℕ} {index : List ℕ} → y ≡ x → Entering t r x index → Entering t r y index
entering-at same e = rw same e

module _ {t : Table} {r : ℕ} {index : List ℕ} where
  -- a letter without a target changes nothing
  entering-zero : (x : ℕ) → target t r x ≡ 0 → Entering t r x index → Entering t r (suc x) index
  entering-zero x none e =
      record {
        long = e.long;
        first = e.first;
        used = e.used;
        chained = e.chained;
        keys = e.keys;
        targets = e.targets;
        arcs = λ s some h. omega (arith, e.arcs s some h, arcs-zero t r x s some none);
      }

  entering-past : {x y : ℕ} → NextArc t r x y → Entering t r x index → Entering t r y index
  entering-past {x} {y} next e = past (λ z. target t r z) (λ z. Entering t r z index) entering-zero x y next.from next.none e

  module _ {x : ℕ} (e : Entering t r x index) (letter : x < letters) (there : 0 < target t r x) where
    abbrev n : ℕ
    n = target t r x

    -- the place is in the array, and one more fits
    place_inside : arcs_place n < index_length
    place_inside = omega (arith, e.targets x letter, e.chained.most)

    count_fits : get_or index (arcs_place n) 0 + 1 < 65536
    count_fits =
        omega (arith, e.arcs n there (e.targets x letter), arcs-fewer t r x n (omega arith), below-most t (row_count t) n, e.chained.most)

    -- one more
    entering-more : Entering t r (suc x) (set index (arcs_place n) (get_or index (arcs_place n) 0 + 1))
    entering-more =
        let count = get_or index (arcs_place n) 0 + 1 in
        let others : (i : ℕ) → (i ≡ arcs_place n → ⊥) → get_or (set index (arcs_place n) count) i 0 ≡ get_or index i 0 =
        λ i d. get_or-set_other index (arcs_place n) i count 0 d in
        record {
          long = length-set index (arcs_place n) count ∙ e.long;
          first = others 0 (λ d. omega arith) ∙ e.first;
          used = e.used;
          chained = chained_same (length-set index (arcs_place n) count) (λ i h. others i (λ d. omega arith)) e.chained;
          keys = λ q used d. others (key_place q) (λ z. omega (arith, used.inside, e.chained.most)) ∙ e.keys q used d;
          targets = e.targets;
          arcs = λ s some h.
              let more : arcs_from t r (suc x) s ≡ arcs_from t r x s + flag (eqb n s) = arcs-more t r x s in
              let before = e.arcs s some h in
              elim (ℕ_discrete s n) [
                | yes d ↦
                    let one : flag (eqb n s) ≡ 1 = rw (eq-eqb n s (sym d)) in
                    let here : get_or (set index (arcs_place n) count) (arcs_place s) 0 ≡ get_or index (arcs_place s) 0 + 1 =
                    rw d (get_or-set_same index (arcs_place n) count 0 (omega (arith, place_inside, e.long))) in
                    omega arith
                | no d ↦
                    let none : flag (eqb n s) ≡ 0 = rw (ne_eqb n s (λ z. d (sym z))) in
                    let here = others (arcs_place s) (λ z. d (omega arith)) in
                    omega arith
              ];
        }

  -- an arc, and the letters without a target before it
  module _ {s e : Arcs} {x n : ℕ} (so_far : Entering t r s.from index) (a : Goes t r s e x n) where
    abbrev here : Entering t r x index
    here = entering-past a.next so_far

    arc_fits : get_or index (arcs_place n) 0 + 1 < 65536
    arc_fits = rw a.to (count_fits here a.inside (a.next.stops a.inside))

    entering_arc : Entering t r e.from (set index (arcs_place n) (get_or index (arcs_place n) 0 + 1))
    entering_arc = rw a.to (entering-at a.from (entering-more here a.inside (a.next.stops a.inside)))

pub overflow_add-index-in-loop-n : goal.overflow_add-index-in-loop-n
overflow_add-index-in-loop-n c =
    let (arcs, so_far) = c.loop-n.invariant in
    omega (arith, arc_fits so_far (goes arcs c.in-Some.ensures.steps))

pub loop-n-preserved : goal.loop-n-preserved
loop-n-preserved c =
    let (arcs, so_far) = c.loop-n.invariant in
    let one = goes arcs c.in-Some.ensures.steps in
    (one.still, entering_arc so_far one)

pub returns : goal.returns
returns c =
    let (arcs, so_far) = c.loop-n.invariant in
    entering-past (gone arcs c.in-None.ensures.steps) so_far
