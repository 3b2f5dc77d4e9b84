-- Any two outcomes of a call that are as promised are the same, also on tables that are renumberings of each other: "no number or value may depend
-- on it". What a call finds in a table, and where its walks lead, is the same in a renumbered one, and so the outcome is; reply and buffer follow
-- by their equations. The tables are equal, or the same up to the order of their state rows: where a change has value 0 both are the ones before;
-- else the book was sound, and both are sound books with the model's lists. Assumes nothing.
use Prim.Native.Nat.{ℕ, zero, suc}
use native.Mathlib.Omega.{arith}
use mathlib.Core.Path.{◌≡◌, refl, sym, ◌∙◌, ap}
use mathlib.Core.Bool.{Bool, true, false}
use mathlib.Core.List.{List}
use lib.ListN.{length, replicate}
use borrow.Author.Tests.{not-false}
use Rattle.letters.specs.Words.{word_of}
use Rattle.letters.specs.Names.{is_name, is_prefix}
use Rattle.letters.proofs.Words.{name-parts, prefix-parts}
use Rattle.letters.proofs.LetterSet.{sum-agree, count-agree}
use Rattle.sets.proofs.Membership.{here, there}
use Rattle.model.specs.Call.{Book, Call}
use Rattle.model.specs.Call.Call.{empty, check, ask, next, add, remove, clear, load, load_two, combine, count, rank, nth, write, used}
use Rattle.model.specs.Refusals.{given, no_name, no_prefix}
use Rattle.model.specs.Rules.{Rule, ask_rule, next_rule}
use Rattle.model.specs.Run.{ruled, run}
use Rattle.model.proofs.Refusals.{none-applies}
use Rattle.model.proofs.Changes.{done-sound}
use Rattle.rows.specs.Table.{Table, length_ok}
use Rattle.rows.specs.Rules.{sound}
use Rattle.minimal.specs.Renumbered.{Renumbered}
use Rattle.minimal.proofs.Theorems.{renumbered-self, renumbered-ask, renumbered-followed, renumbered-next, renumbered-lists, renumbered-sound-same, same-lists-renumbered}
use Rattle.answers.specs.declared.replies.Reply.{Reply}
use Rattle.answers.specs.Replies.{reply_of}
use Rattle.promises.specs.Books.{book_of}
use Rattle.promises.specs.Walks.{ask_walk, next_walk}
use Rattle.promises.specs.Promises.{outcome_of, Leaves, Becomes, Promised, Same, Tight}
use Rattle.promises.proofs.Walks.{same_outcome, mission-below}
use Rattle.promises.proofs.Outcomes.{Kind, kind, emptied}
use Rattle.promises.proofs.Outcomes.Kind.{empties, reads, changes}
use Rattle.promises.proofs.Nothing.{nothing-changed}

module _ (t t' : Table) (by : Renumbered t t') where
  same_length : length_ok t' ≡ length_ok t
  unfolding length_ok
  same_length = rw by.long

  same-book : book_of t' ≡ book_of t
  same-book = rw (same_length, renumbered-sound-same t t' by, renumbered-lists t t' by, by.long)

  -- ask and next go by the walk, where nothing refuses them
  walk_same : (r r' : Rule) → r'.refusals ≡ r.refusals → (given r.refusals ≡ 0 → r'.done ≡ r.done) → ruled (book_of t') r' ≡ ruled (book_of t) r
  walk_same r r' refusals done = rw (same-book, refusals) (same_outcome (book_of t) (given r.refusals) r'.done r.done done)

  ask-same : (m : ℕ) (name : List ℕ) → ruled (book_of t') (ask_walk t' m name) ≡ ruled (book_of t) (ask_walk t m name)
  ask-same m name =
      let call = ask m name in
      walk_same (ask_walk t m name) (ask_walk t' m name) (ap (λ (b : Book). (ask_rule b m name).refusals) same-book)
      (λ none.
      let mission = mission-below (book_of t) call m (there (here refl)) none in
      let named = not-false (is_name name) (none-applies (book_of t) call (no_name name) (there (there (here refl))) none) in
      let spelled = (name-parts name named).2 in
      rw (
        renumbered-ask t t' by m mission (word_of name) spelled,
        renumbered-followed t t' by m mission (word_of name) spelled,
        renumbered-lists t t' by,
      ))

  next-same : (m : ℕ) (prefix : List ℕ) → ruled (book_of t') (next_walk t' m prefix) ≡ ruled (book_of t) (next_walk t m prefix)
  next-same m prefix =
      let call = next m prefix in
      walk_same (next_walk t m prefix) (next_walk t' m prefix) (ap (λ (b : Book). (next_rule b m prefix).refusals) same-book)
      (λ none.
      let mission = mission-below (book_of t) call m (there (here refl)) none in
      let fine = not-false (is_prefix prefix) (none-applies (book_of t) call (no_prefix prefix) (there (there (here refl))) none) in
      let same = renumbered-next t t' by m mission (word_of prefix) (prefix-parts prefix fine).1 in
      rw (sum-agree _ _ _ same, count-agree _ _ _ same, renumbered-lists t t' by))

  outcome-same : (call : Call) → outcome_of t' call ≡ outcome_of t call
  outcome-same (ask m name) = ask-same m name
  outcome-same (next m prefix) = next-same m prefix
  outcome-same empty = rw same-book
  outcome-same check = rw same-book
  outcome-same (add m name) = rw same-book
  outcome-same (remove m name) = rw same-book
  outcome-same (clear m) = rw same-book
  outcome-same (load m list) = rw same-book
  outcome-same (load_two m first second) = rw same-book
  outcome-same (combine op a b c) = rw same-book
  outcome-same (count m) = rw same-book
  outcome-same (rank m name) = rw same-book
  outcome-same (nth m n size) = rw same-book
  outcome-same (write m size) = rw same-book
  outcome-same used = rw same-book

  module _ (u u' : Table) (call : Call) (p : Leaves t u call) (q : Leaves t' u' call) where
    emptied-same : call ≡ empty → (fine : Bool) → length_ok t ≡ fine → Renumbered u u'
    emptied-same e true fine =
        let ours : u ≡ replicate (length t) 0 = emptied t u e p ∙ rw fine in
        let theirs : u' ≡ replicate (length t) 0 = emptied t' u' e q ∙ rw (same_length, fine, by.long) in
        rw (ours, theirs) (renumbered-self _)
    emptied-same e false fine =
        let ours : u ≡ t = emptied t u e p ∙ rw fine in
        let theirs : u' ≡ t' = emptied t' u' e q ∙ rw (same_length, fine) in
        rw (ours, theirs) by

    tables-same : Kind call → Renumbered u u'
    tables-same (empties e) = emptied-same e (length_ok t) refl
    tables-same (reads r) = rw (r.table t u p, r.table t' u' q) by
    tables-same (changes c) = go (run (book_of t) call).value refl (c.table t u p) (rw same-book at (c.table t' u' q))
      where
        go : (n : ℕ) → (run (book_of t) call).value ≡ n → Becomes t u (run (book_of t) call) → Becomes t' u' (run (book_of t) call) → Renumbered u u'
        go zero e a b = rw (a.same e, b.same e) by
        go (suc n) e a b =
            let s = done-sound (book_of t) call (c.soundly (book_of t)) (omega arith) in
            let s' : sound t' ≡ true = renumbered-sound-same t t' by ∙ s in
            same-lists-renumbered u u' (a.sound s) (b.sound s') (b.long ∙ (by.long ∙ sym a.long)) (b.lists ∙ sym a.lists)

-- "no number or value may depend on it": the same call on renumbered tables.
pub renumbered-calls : (t t' u u' : Table) (before x y : List ℕ) (call : Call) (r s : Reply) → Renumbered t t'
    → Promised t u before x call r → Promised t' u' before y call s → Same u u' x y r s
renumbered-calls t t' u u' before x y call r s by p q =
    record {
      replies = p.answers ∙ sym (q.answers ∙ ap reply_of (outcome-same t t' by call));
      buffers = p.buffer ∙ sym (q.buffer ∙ rw (outcome-same t t' by call));
      tables = tables-same t t' by u u' call p.table q.table (kind call);
    }

-- Two outcomes of any call.
pub promised-tight : (t u v : Table) (before x y : List ℕ) (call : Call) (r s : Reply) → Promised t u before x call r → Promised t v before y call s
    → Tight t u v before x y call r s
promised-tight t u v before x y call r s p q =
    record {
      same = renumbered-calls t t u v before x y call r s (renumbered-self t) p q;
      first = nothing-changed t u before x call r p;
      second = nothing-changed t v before y call s q;
    }
