-- 02's wish 2: "Loading them, where room allows, gives an equal list." On a sound book write is the model's, so what stands at the front of the
-- buffer are the lines of the list, and these are a list for load with the same names; loading it into an empty list is refused for room alone.
-- Assumes nothing.
use Prim.Native.Nat.{ℕ, ◌<◌}
use native.Mathlib.Omega.{arith}
use mathlib.Core.Path.{◌≡◌, refl, sym, ◌∙◌, ap}
use mathlib.Core.Bool.{Bool, true, false, cond}
use mathlib.Core.List.{List, []}
use lib.Dec.{ltb}
use lib.ListN.{length, take}
use lib.Seq.{take_at}
use borrow.Author.Tests.{ltb-true, ltb-false}
use Rattle.letters.specs.Lists.{lines}
use Rattle.sets.specs.Residuals.{need}
use Rattle.model.specs.Lists.{missions, list_of, replace}
use Rattle.model.specs.Call.{Outcome}
use Rattle.model.specs.Call.Call.{load, write}
use Rattle.model.specs.Rules.{leaves}
use Rattle.model.specs.Run.{refused, run}
use Rattle.model.proofs.Lists.{replace-same}
use Rattle.model.proofs.Loads.{written, load_again}
use Rattle.rows.specs.Table.{Table, room}
use Rattle.rows.specs.Words.{lists}
use Rattle.rows.specs.Rules.{sound}
use Rattle.rows.proofs.Rules.{sound-length}
use Rattle.rows.proofs.Books.{lists-sixteen}
use Rattle.minimal.proofs.Theorems.{sound-lists}
use Rattle.answers.specs.declared.replies.Reply.{Reply}
use Rattle.promises.specs.Books.{book_of}
use Rattle.promises.specs.Promises.{Promised}
use Rattle.promises.specs.Again.{LoadedAgain}
use Rattle.promises.proofs.AnyCalls.{Kept, kept}

number_of : {r s : Reply} → r ≡ s → r.number ≡ s.number
number_of e = ap (λ (r : Reply). r.number) e

module _ (t : Table) (s : sound t ≡ true) (m : ℕ) (before filled : List ℕ) (said : Reply)
    (p : Promised t t before filled (write m (length before)) said) (done : said.number ≡ 0) where
  number : (run (book_of t) (write m (length before))).number ≡ 0
  number = sym (number_of (kept t t before filled (write m (length before)) said s p).said) ∙ done

  -- what was written stands at the front of the buffer
  front : take said.value filled ≡ lines (list_of (lists t) m)
  front =
      let k = kept t t before filled (write m (length before)) said s p in
      let wrote = written (book_of t) (sound-lists t s) m (length before) number in
      let long : said.value ≡ length (lines (list_of (lists t) m)) =
      ap (λ (r : Reply). r.value) k.said ∙ ap (λ (o : Outcome). o.value) wrote in
      rw (k.wrote, wrote) (take_at (lines (list_of (lists t) m)) _ said.value (sym long))

  module _ (u after : Table) (fine : sound u ≡ true) (n : ℕ) (mission : n < missions) (empty : list_of (lists u) n ≡ []) (x y : List ℕ)
      (reply : Reply) (q : Promised u after x y (load n (take said.value filled)) reply) where
    abbrev states : ℕ
    states = need (replace (lists u) n (list_of (lists t) m))

    pub write-load : LoadedAgain t u after m n reply
    write-load = go (ltb (room u) states) refl
      where
        k : Kept u after x y (load n (take said.value filled)) reply
        k = kept u after x y (load n (take said.value filled)) reply fine q

        loads : (over : Bool) → ltb (room u) states ≡ over → run (book_of u) (load n (take said.value filled))
            ≡ cond over (refused 11 (book_of u)) (leaves (replace (lists u) n (list_of (lists t) m)) (length (list_of (lists t) m)))
        loads over e =
            rw front
            (load_again (book_of t) (sound-lists t s) m (length before) number (book_of u) n (sound-length u fine) fine mission empty over e)

        go : (over : Bool) → ltb (room u) states ≡ over → LoadedAgain t u after m n reply
        go true e =
            let eleven : reply.number ≡ 11 = number_of k.said ∙ ap (λ (o : Outcome). o.number) (loads true e) in
            record {
              allowed = λ fits. absurd (omega (arith, ltb-true (room u) states e));
              refused = λ over. eleven;
              equal = λ none. absurd (omega arith);
            }
        go false e =
            let none : reply.number ≡ 0 = number_of k.said ∙ ap (λ (o : Outcome). o.number) (loads false e) in
            record {
              allowed = λ fits. none;
              refused = λ over. absurd (omega (arith, ltb-false (room u) states e));
              equal = λ _. rw (k.names, loads false e) (replace-same (lists u) n _ (rw (lists-sixteen u) mission));
            }
