-- `take_arcs` meets its promise: it writes the front of the array, with the part that begins behind the keys. Assumes nothing.
use Prim.Native.Nat.{ℕ, ◌≤◌}
use mathlib.Core.Path.{◌≡◌, ap, ◌∙◌}
use mathlib.Core.List.{List, ◌++◌}
use native.Mathlib.Omega.{arith}
use lib.ListN.{length, take, drop, get_or-append, length-append, length-drop}
use lib.Seq.{length-take-le, get_or-take, get_or-drop}
use Rattle.rows.specs.Table.{most_rows}
use Rattle.index.specs.Index.{arcs_place, index_length, Takes}
use Rattle.index.proofs.builds.take_arcs.Goals as goal

takes-part : (index arcs : List ℕ) (n k : ℕ) {part : List ℕ} → n ≤ length arcs → n ≤ most_rows → length index ≡ index_length
    → part ≡ take k (drop (arcs_place 0) index) → k ≡ n → Takes index n (part ++ drop n arcs)
takes-part index arcs n k {part} few inside long same size =
    let behind = drop (arcs_place 0) index in
    let parts : length part ≡ k = ap length same ∙ length-take-le k behind (simp length-drop (omega (arith, long))) in
    record {
      long = simp (length-append, length-drop) (omega (arith, parts));
      taken = λ r h.
          get_or-append part (drop n arcs) 0 r (omega (arith, parts))
          ∙ rw same (get_or-take k behind r 0 (omega arith) ∙ get_or-drop (arcs_place 0) index r 0);
    }

pub returns : goal.returns
returns c =
    let (few, inside, long) = c.requires in
    takes-part c.args.index.now c.args.arcs.now c.args.n _ few inside long c.copy_from_slice.ensures.after (omega arith)
