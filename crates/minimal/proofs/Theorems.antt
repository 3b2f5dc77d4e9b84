-- What is promised of the rows of a book: they are exactly the states that its lists need, no automaton has fewer, which rows hold them is all
-- that is free, and the walk answers as the plain sets do. The proofs are put together here from those of the other files. Assumes nothing.
use Prim.Native.Nat.{ℕ, ◌≤◌, ◌<◌}
use mathlib.Core.Path.{◌≡◌, refl}
use mathlib.Core.Bool.{true, or-false}
use mathlib.Core.List.{List, [], ◌∷◌, map}
use lib.ListN.{length}
use Rattle.letters.specs.Each.{Each}
use Rattle.letters.specs.Letters.{letters}
use Rattle.letters.specs.Words.{Word, Spelled}
use Rattle.letters.specs.LetterSet.{count_of}
use Rattle.sets.specs.Sets.{Words, member}
use Rattle.sets.specs.Residuals.{need}
use Rattle.sets.specs.Automata.{size, Theorem5, Minimal}
use Rattle.sets.proofs.Below.{tests_agree}
use Rattle.sets.proofs.Served.{none_fewer}
use Rattle.model.specs.Lists.{missions, SixteenSets, list_of, may_follow}
use Rattle.model.specs.Prefixes.{how_far, LongestPrefix}
use Rattle.model.proofs.Prefixes.{how-far-longest}
use Rattle.rows.specs.Table.{Table, row_count, start, starts, height, in_use, used_rows}
use Rattle.rows.specs.Walk.{accepts, followed, Longest, follows}
use Rattle.rows.specs.Words.{words, lists}
use Rattle.rows.specs.Rules.{sound}
use Rattle.rows.specs.Tidy.{Used, Named, Tidy}
use Rattle.rows.specs.Reach.{reaches, reached_from, reached}
use Rattle.rows.specs.Growth.{Useful}
use Rattle.rows.proofs.Facts.{in-use-used}
use Rattle.rows.proofs.Rules.{sound-facts, facts-sound}
use Rattle.rows.proofs.Heights.{height-longest}
use Rattle.rows.proofs.Books.{lists-sixteen, lists-plain, lists-names, starts-named, ask-plain, far-plain, next-plain, sound-reached}
use Rattle.minimal.specs.Book.{automaton}
use Rattle.minimal.specs.Places.{OneToOne}
use Rattle.minimal.specs.Renumbered.{Renumbered}
use Rattle.minimal.proofs.Places.{reached-need, used-in-states, used-one-to-one, used-rows-need, useful-rows, useful-reached}
use Rattle.minimal.proofs.Book.{state-used, automaton-size, automaton-once, automaton-languages}
use Rattle.minimal.proofs.Book.{automaton-acyclic, automaton-reached, automaton-useful, automaton-different}
use Rattle.minimal.proofs.Carried.{home-renumbered, on-renumbered, to-accepts, to-followed, to-follows, to-lists}
use Rattle.minimal.proofs.Renumbering.{renumbered-sound}
use Rattle.minimal.proofs.Matching.{matched-renumbered}

-- In a sound book the rows in use stand for the sets that are left of the lists, one row for each set.
pub place-one-to-one : (t : Table) → sound t ≡ true → OneToOne (lists t) t (Used t)
place-one-to-one t e = used-one-to-one t (sound-facts t e)

-- So a sound book has as many rows in use as its lists need.
pub used-need : (t : Table) → sound t ≡ true → used_rows t ≡ need (lists t)
used-need t e = used-rows-need t (sound-facts t e)

-- The words of every row in use are left of the lists after some letters.
pub sound-useful : (t : Table) → sound t ≡ true → Useful (lists t) t
sound-useful t e = used-in-states t (sound-facts t e)

-- In a tidy table as many rows are reached from the starts as the lists need.
pub starts-need : (t : Table) → Tidy t → count_of (row_count t) (λ r. reached t r) ≡ need (lists t)
starts-need t tidy = reached-need t tidy (starts t) (starts-named t tidy)

-- And as many are reached from one row as the words of that row need.
pub row-need : (t : Table) → Tidy t → (r : ℕ) → Named t r → count_of (row_count t) (λ s. reaches t r s) ≡ need (words t r ∷ [])
row-need t tidy r named = simp or-false at (reached-need t tidy (r ∷ []) (named, tt))

-- Where the words of every row in use are left of some lists, no more rows are in use than those lists need.
pub useful-need : (t : Table) → Tidy t → (ls : List Words) → Useful ls t → used_rows t ≤ need ls
useful-need = useful-rows

-- Where they are left of the words of some rows, every row in use is reached from these rows.
pub needed-reached : (t : Table) → Tidy t → (roots : List ℕ) → Each (Named t) roots → Useful (map (λ n. words t n) roots) t
    → (r : ℕ) → Used t r → reached_from t roots r ≡ true
needed-reached = useful-reached

-- The states of a book's automaton are counted by the rows in use.
pub book-size : (t : Table) → size (automaton t) ≡ used_rows t
book-size = automaton-size

-- The automaton of a sound book has the book's lists as its languages, and no automaton with these languages has fewer states.
pub sound-fewest : (t : Table) → sound t ≡ true → Minimal (automaton t) (lists t)
unfolding need
sound-fewest t e =
    record {
      once = automaton-once t;
      has = automaton-languages t (sound-facts t e).tidy;
      none_fewer = λ B has. rw (book-size t, used-need t e) (none_fewer B (lists t) (lists-plain t) has);
    }

-- The automaton of a sound book is what Theorem 5 of source document 002 asks for: it has no cycle, every state is reached from a start, from
-- every state a final one is reached, and no two states are equivalent.
pub sound-theorem-5 : (t : Table) → sound t ≡ true → Theorem5 (automaton t)
sound-theorem-5 t e =
    let facts = sound-facts t e in
    record {
      no_cycle = automaton-acyclic t facts.tidy;
      reached = λ r state. automaton-reached t facts.tidy r (sound-reached t facts r (state-used t r state));
      useful = automaton-useful t facts.tidy;
      different = automaton-different t facts.tidy;
    }

-- A table is itself with its rows in the same order.
pub renumbered-self : (t : Table) → Renumbered t t
renumbered-self t =
    record {
      to = λ r. r;
      from = λ r. r;
      long = refl;
      to_row = λ r e. e;
      from_row = λ r e. e;
      from_to = λ r e. refl;
      to_from = λ r e. refl;
      others = λ n out. refl;
      starts = λ m h. refl;
      rest = λ i m h. refl;
      marks = λ r e. refl;
      heights = λ r e. refl;
      targets = λ r x e h. refl;
      numbers39 = λ r e. refl;
    }

-- The order of the rows can be put back, and put into another one after it.
pub renumbered-back : (t u : Table) → Renumbered t u → Renumbered u t
renumbered-back = home-renumbered

pub renumbered-on : (t u v : Table) → Renumbered t u → Renumbered u v → Renumbered t v
renumbered-on = on-renumbered

-- "no number or value may depend on it": whatever numbers a table holds, in another order of its state rows ask and next say the same, the
-- lists are the same, and it is a sound book in both or in neither.
pub renumbered-ask : (t u : Table) → Renumbered t u → (m : ℕ) → m < missions → (w : Word) → Spelled w
    → accepts u w (start u m) ≡ accepts t w (start t m)
renumbered-ask t u by m h w s = rw (by.starts m h) (to-accepts t u by w s (start t m))

pub renumbered-followed : (t u : Table) → Renumbered t u → (m : ℕ) → m < missions → (w : Word) → Spelled w
    → followed u w (start u m) ≡ followed t w (start t m)
renumbered-followed t u by m h w s = rw (by.starts m h) (to-followed t u by w s (start t m))

pub renumbered-next : (t u : Table) → Renumbered t u → (m : ℕ) → m < missions → (w : Word) → Spelled w → (x : ℕ) → x < letters
    → follows u w (start u m) x ≡ follows t w (start t m) x
renumbered-next t u by m h w s x g = rw (by.starts m h) (to-follows t u by w s (start t m) x g)

pub renumbered-lists : (t u : Table) → Renumbered t u → lists u ≡ lists t
renumbered-lists = to-lists

pub renumbered-sound-same : (t u : Table) → Renumbered t u → sound u ≡ sound t
renumbered-sound-same t u by = tests_agree (sound u) (sound t) (carried u t (renumbered-back t u by)) (carried t u by)
  where
    carried : (t u : Table) → Renumbered t u → sound t ≡ true → sound u ≡ true
    carried t u by e = facts-sound u (renumbered-sound t u by (sound-facts t e))

-- Sound books of one length with the same lists differ in nothing but the order of their state rows.
pub same-lists-renumbered : (t u : Table) → sound t ≡ true → sound u ≡ true → length u ≡ length t → lists u ≡ lists t → Renumbered t u
same-lists-renumbered t u d e = matched-renumbered t u (sound-facts t d) (sound-facts u e)

-- The lists of a sound book are sixteen plain sets of names.
pub sound-lists : (t : Table) → sound t ≡ true → SixteenSets (lists t)
sound-lists t e = record { sixteen = lists-sixteen t; plain = lists-plain t; names = lists-names t (sound-facts t e).tidy }

-- On a sound book ask and next give the plain set answers: the walk of a word accepts exactly the names of the list, and a letter is reported
-- exactly if some name of the list goes on with it.
pub sound-ask : (t : Table) → sound t ≡ true → (m : ℕ) → m < missions → (w : Word) → Spelled w
    → accepts t w (start t m) ≡ member w (list_of (lists t) m)
sound-ask t e = ask-plain t (sound-facts t e).tidy

pub sound-far : (t : Table) → sound t ≡ true → (m : ℕ) → m < missions → (w : Word) → Spelled w
    → followed t w (start t m) ≡ how_far w (list_of (lists t) m)
sound-far t e = far-plain t (sound-facts t e).tidy

-- 02, wish 1: and the arcs that the walk follows are "the length of the longest prefix of the given name that some name on the list begins with".
pub sound-followed : (t : Table) → sound t ≡ true → (m : ℕ) → m < missions → (w : Word) → Spelled w
    → LongestPrefix w (list_of (lists t) m) (followed t w (start t m))
sound-followed t e m h w s = rw (sound-far t e m h w s) (how-far-longest w (list_of (lists t) m))

pub sound-next : (t : Table) → sound t ≡ true → (m : ℕ) → m < missions → (u : Word) → Spelled u → (x : ℕ) → x < letters
    → follows t u (start t m) x ≡ may_follow u (list_of (lists t) m) x
sound-next t e = next-plain t (sound-facts t e).tidy

-- In a sound book the height of a row in use is the length of the longest word accepted from there.
pub sound-height : (t : Table) → sound t ≡ true → (r : ℕ) → in_use t r ≡ true → Longest t r (height t r)
sound-height t e r used = height-longest t (sound-facts t e).tidy r (in-use-used t r used)
