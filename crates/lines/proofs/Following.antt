-- The names that follow a line: what the call write puts behind the answer are all of them. A list that the desk's input can make has no more bytes
-- than were read, since every name on it came in a line of its own. So it is short enough to be counted, and to be written behind the answer.
-- Assumes nothing.
use Rattle.std.specs.Prelude.{Some, None}
use Prim.Native.Nat.{ℕ, zero, suc, ◌+◌, ◌-◌, ◌^◌, ◌≤◌, ◌<◌, Ordering}
use native.Mathlib.Omega.{arith}
use native.Mathlib.Decide.{dec_lt}
use mathlib.Core.Path.{◌≡◌, refl, sym, ◌∙◌, ap}
use mathlib.Core.Bool.{Bool, true, false, not, cond}
use mathlib.Core.Logic.{◌⊎◌, inl, inr}
use mathlib.Core.List.{List, [], ◌∷◌}
use borrow.Author.Tests.{le-ltb}
use lib.Dec.{eqb}
use lib.ListN.{length, replicate, length-append, length-map, length-drop}
use Rattle.letters.specs.Each.{Each}
use Rattle.letters.specs.Words.{Word, word_of, order, same}
use Rattle.letters.specs.Lists.{longest_list, line, lines}
use Rattle.letters.proofs.Loaded.{line-long, lines_long}
use Rattle.sets.specs.Sets.{Words, keep, put, insert, delete}
use Rattle.sets.specs.Cut.{most_names}
use Rattle.model.specs.Lists.{missions, list_of}
use Rattle.model.specs.Call.{Book, Outcome}
use Rattle.model.specs.Call.Call.{count, write}
use Rattle.model.specs.Rules.{answers, puts}
use Rattle.model.specs.Run.{rule, refused, run}
use Rattle.model.proofs.Lists.{list-each, replace-each}
use Rattle.model.proofs.Refusals.{mission-over, mission-under}
use Rattle.model.proofs.Changes.{run-ruled}
use Rattle.rows.specs.Table.{Table}
use Rattle.rows.specs.Words.{lists}
use Rattle.rows.specs.Rules.{sound}
use Rattle.rows.proofs.Rules.{sound-length}
use Rattle.promises.specs.Books.{book_of}
use Rattle.promises.specs.Promises.{outcome_of}
use Rattle.promises.proofs.Outcomes.{ruled-either}
use Rattle.printing.specs.Printed.{answer_line, spare}
use Rattle.printing.proofs.Decimal.{field-short}
use Rattle.lines.specs.declared.requests.Kind.{Kind}
use Rattle.lines.specs.declared.requests.Kind.TheVariants.{Add, Remove, Ask, Count}
use Rattle.lines.specs.Requests.{Request, name_of, request_of, call_of}
use Rattle.lines.specs.Promises.{said, said_to, names_behind, written_behind}
use Rattle.lines.specs.Steps.{most_input, most_output}
use Rattle.lines.specs.Sessions.{lists_after_line}

-- nothing is written behind a line of another kind
pub others-none : (b : Book) (m size : ℕ) (kind : Kind) → (kind ≡ Add) ⊎ ((kind ≡ Remove) ⊎ (kind ≡ Ask))
    → written_behind b (Some (kind, m)) size ≡ []
others-none b m size Add other = refl
others-none b m size Remove other = refl
others-none b m size Ask other = refl
others-none b m size Count other = elim other [ inl e ↦ cc | inr e ↦ elim e [ inl d ↦ cc | inr d ↦ cc ] ]

-- the value of write is how many bytes it wrote, also where it is refused
pub written-long : (b : Book) (m size : ℕ) → (run b (write m size)).value ≡ length (run b (write m size)).written
written-long b m size =
    rw (run-ruled b (write m size))
    (ruled-either (λ o. o.value ≡ length o.written) b (rule b (write m size)) (λ n. refl) refl)

-- ---- no list has more bytes than were read

-- the bytes of a list with one name more, and with some names less
with-name : (w : Word) (l : Words) → length (lines (insert w l)) ≤ length (lines l) + length (line w)
unfolding lines insert
with-name w [] = simp length-append (omega arith)
with-name w (v ∷ vs) = go (with-name w vs) (order w v)
  where
    go : length (lines (insert w vs)) ≤ length (lines vs) + length (line w) → (o : Ordering)
        → length (lines (put o w v vs (insert w vs))) ≤ length (lines (v ∷ vs)) + length (line w)
    go rest Ordering.lt = omega (arith, length-append (line w) (lines (v ∷ vs)))
    go rest Ordering.eq = omega arith
    go rest Ordering.gt = omega (arith, length-append (line v) (lines (insert w vs)), length-append (line v) (lines vs))

some-names : (test : Word → Bool) (l : Words) → length (lines (keep test l)) ≤ length (lines l)
unfolding lines keep
some-names test [] = omega arith
some-names test (v ∷ vs) = go (some-names test vs) (test v)
  where
    go : length (lines (keep test vs)) ≤ length (lines vs) → (b : Bool)
        → length (lines (cond b (v ∷ keep test vs) (keep test vs))) ≤ length (lines (v ∷ vs))
    go rest true = simp length-append (omega arith)
    go rest false = simp length-append (omega arith)

-- each list has at most so many bytes
abbrev pub Held : ℕ → List Words → Type 0
Held n ls = Each (λ l. length (lines l) ≤ n) ls

held-later : {n k : ℕ} → n ≤ k → (ls : List Words) → Held n ls → Held k ls
held-later h [] held = tt
held-later h (l ∷ ls) held = (omega (arith, held.0), held-later h ls held.1)

pub held_none : (k n : ℕ) → Held n (replicate k [])
unfolding lines
held_none zero n = tt
held_none (suc k) n = (omega arith, held_none k n)

held-list : {n : ℕ} (ls : List Words) → Held n ls → (m : ℕ) → length (lines (list_of ls m)) ≤ n
unfolding lines
held-list {n} ls held m = list-each (λ l. length (lines l) ≤ n) ls m held (omega arith)

module _ (b : Book) (text : List ℕ) (n : ℕ) (held : Held n b.lists) where
  abbrev later : ℕ
  later = n + (length text + 1)

  kept : Held later b.lists
  kept = held-later (omega arith) b.lists held

  -- what a call leaves
  by-rule : (kind : Kind) (m : ℕ) → Held later (rule b (call_of kind m (name_of text))).done.lists → Held later (run b (call_of kind m (name_of text))).lists
  by-rule kind m done =
      rw (run-ruled b (call_of kind m (name_of text)))
      (ruled-either (λ o. Held later o.lists) b (rule b (call_of kind m (name_of text))) (λ k. kept) done)

  pub held_after : (asked : Request) → Held later (lists_after_line b text asked)
  unfolding delete
  held_after (Some (Add, m)) =
      let l = list_of b.lists m in
      let w = word_of (name_of text) in
      let long : length w ≤ length text = simp (length-map, length-drop) (omega arith) in
      by-rule Add m
      (replace-each (λ l. length (lines l) ≤ later) b.lists m (insert w l) kept
      (omega (arith, with-name w l, held-list b.lists held m, line-long w)))
  held_after (Some (Remove, m)) =
      let l = list_of b.lists m in
      by-rule Remove m
      (replace-each (λ l. length (lines l) ≤ later) b.lists m (delete (word_of (name_of text)) l) kept
      (omega (arith, some-names (λ v. not (same v (word_of (name_of text)))) l, held-list b.lists held m)))
  held_after (Some (Ask, m)) = by-rule Ask m kept
  held_after (Some (Count, m)) = by-rule Count m kept
  held_after None = kept

-- ---- so all that follow are written

module _ (t : Table) (s : sound t ≡ true) (text : List ℕ) (n at size : ℕ) (held : Held at (lists t)) (inside : at + length text ≤ most_input)
    (takes : most_output ≤ size) where
  answer-short : (number value : ℕ) → number < 2 ^ 64 → value < 2 ^ 64 → length (answer_line text number value) ≤ length text + spare
  answer-short number value h k = simp length-append (omega (arith, field-short number h, field-short value k))

  -- the mission's list
  module _ (m : ℕ) where
    abbrev l : Words
    l = list_of (lists t) m

    short : length (lines l) ≤ at
    short = held-list (lists t) held m

    count-done : m < missions → run (book_of t) (count m) ≡ answers (book_of t) (length l)
    count-done h =
        run-ruled (book_of t) (count m)
        ∙ rw (sound-length t s, mission-under m h, s, le-ltb most_names (length l) (omega (arith, short, lines_long l)))

    write_done : m < missions → (k : ℕ) → length (lines l) ≤ k → run (book_of t) (write m k) ≡ puts (book_of t) (lines l) (length (lines l))
    write_done h k fits =
        run-ruled (book_of t) (write m k)
        ∙ rw (sound-length t s, mission-under m h, s, le-ltb longest_list (length (lines l)) (omega (arith, short)), le-ltb k (length (lines l)) fits)

    count-refused : missions ≤ m → run (book_of t) (count m) ≡ refused 2 (book_of t)
    count-refused h = run-ruled (book_of t) (count m) ∙ rw (sound-length t s, mission-over m h)

    write-refused : missions ≤ m → (k : ℕ) → run (book_of t) (write m k) ≡ refused 2 (book_of t)
    write-refused h k = run-ruled (book_of t) (write m k) ∙ rw (sound-length t s, mission-over m h)

    -- so many bytes are left behind the answer
    abbrev rest : ℕ
    rest = size - length (said (outcome_of t) text n (Some (Count, m)))

    fits : m < missions → length (lines l) ≤ rest
    fits h =
        let number : (run (book_of t) (count m)).number ≡ 0 = ap (λ (o : Outcome). o.number) (count-done h) in
        let value : (run (book_of t) (count m)).value ≡ length l = ap (λ (o : Outcome). o.value) (count-done h) in
        let few : length l < 2 ^ 64 = omega (arith, short, lines_long l) in
        omega (arith, answer-short (run (book_of t) (count m)).number (run (book_of t) (count m)).value (omega arith) (omega arith), short)

    -- what follows by the count, and what was written
    named : (o : Outcome) → run (book_of t) (count m) ≡ o → names_behind (book_of t) (Some (Count, m)) ≡ cond (eqb o.number 0) l []
    named o e = ap (λ (o : Outcome). cond (eqb o.number 0) l []) e

    wrote : (o : Outcome) → run (book_of t) (write m rest) ≡ o → written_behind (book_of t) (Some (Count, m)) rest ≡ o.written
    wrote o e = ap (λ (o : Outcome). o.written) e

    counted : written_behind (book_of t) (Some (Count, m)) rest ≡ lines (names_behind (book_of t) (Some (Count, m)))
    unfolding lines
    counted =
        elim (dec_lt m missions) [
          | yes h ↦ wrote _ (write_done h rest (fits h)) ∙ ap lines (sym (named _ (count-done h)))
          | no h ↦ wrote _ (write-refused (omega arith) rest) ∙ ap lines (sym (named _ (count-refused (omega arith))))
        ]

  behind-all : (asked : Request) → written_behind (book_of t) asked (size - length (said (outcome_of t) text n asked)) ≡ lines (names_behind (book_of t) asked)
  unfolding lines
  behind-all (Some (Add, m)) = refl
  behind-all (Some (Remove, m)) = refl
  behind-all (Some (Ask, m)) = refl
  behind-all (Some (Count, m)) = counted m
  behind-all None = refl

  pub all-written : written_behind (book_of t) (request_of text) (size - length (said_to t text n)) ≡ lines (names_behind (book_of t) (request_of text))
  all-written = behind-all (request_of text)
