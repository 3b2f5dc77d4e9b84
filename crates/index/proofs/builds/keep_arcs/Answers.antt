-- `keep_arcs` meets its promise: it writes the part of the array that begins behind the keys, and no other. Assumes nothing.
use Prim.Native.Nat.{ℕ, ◌≤◌}
use mathlib.Core.Path.{◌≡◌, ap, ◌∙◌}
use mathlib.Core.List.{List, ◌++◌}
use native.Mathlib.Omega.{arith}
use borrow.Rule.Slice.PartMut.{put_mid, post_of}
use lib.ListN.{length, take, get_or-append, length-append, length-drop}
use lib.Seq.{length-take-le, get_or-take}
use Rattle.std.proofs.lemmas.List.{get_or-append-add}
use Rattle.rows.specs.Table.{most_rows}
use Rattle.index.specs.Index.{arcs_place, index_length, Keeps}
use Rattle.index.proofs.builds.keep_arcs.Goals as goal

keeps-part : (arcs index : List ℕ) (n k : ℕ) {part : List ℕ} → n ≤ length arcs → n ≤ most_rows → length index ≡ index_length → part ≡ take n arcs
    → k ≡ n → Keeps arcs n index (put_mid (arcs_place 0) k index part)
keeps-part arcs index n k {part} few inside long same size =
    let place = arcs_place 0 in
    let front : length (take place index) ≡ place = length-take-le place index (omega (arith, long)) in
    let parts : length part ≡ n = ap length same ∙ length-take-le n arcs few in
    record {
      long = simp (length-append, length-drop) (omega (arith, front, parts, long));
      kept = λ r h.
          (rw front at (get_or-append-add (take place index) (part ++ post_of place k index) r 0))
          ∙ get_or-append part (post_of place k index) 0 r (omega (arith, parts))
          ∙ rw same (get_or-take n arcs r 0 h);
      others = λ i h.
          get_or-append (take place index) (part ++ post_of place k index) 0 i (omega (arith, front)) ∙ get_or-take place index i 0 h;
    }

pub returns : goal.returns
returns c =
    let (few, inside, long) = c.requires in
    keeps-part c.args.arcs.now c.args.index.now c.args.n _ few inside long c.copy_from_slice.ensures.after (omega arith)
