-- What the loads and combine come to on a sound book, by the model: refused 8 where the receiving list has names, and else done or refused 11 as the
-- lists after the change fit. A value of 0 means no names, and then the table is the same. Assumes nothing.
use Prim.Native.Nat.{ℕ, ◌+◌, ◌≤◌, ◌<◌}
use native.Mathlib.Omega.{arith}
use mathlib.Core.Path.{◌≡◌, refl, ◌∙◌, ap, subst}
use mathlib.Core.Bool.{Bool, true, false, cond, not, ◌||◌, and-true}
use mathlib.Core.List.{List, [], ◌∷◌, ◌++◌}
use lib.Dec.{ltb}
use lib.ListN.{length, drop, length-map}
use borrow.Author.Tests.{ltb-true, ltb-false, lt-ltb, le-ltb}
use Rattle.std.specs.Prelude.{Err}
use Rattle.letters.specs.Each.{Each}
use Rattle.letters.specs.LetterSet.{flag}
use Rattle.letters.specs.Words.{Word}
use Rattle.letters.specs.Lists.{longest_list, lines_of, names_of, is_list}
use Rattle.letters.proofs.Words.{name-parts}
use Rattle.letters.proofs.Lines.{lines-few, names-each, list-parts}
use Rattle.sets.specs.Sets.{Words, member, both}
use Rattle.sets.proofs.Membership.{fails}
use Rattle.sets.proofs.Sets.{member-each, member-both, both-few}
use Rattle.model.specs.Lists.{last_mission, missions, list_of, replace, has_names}
use Rattle.model.specs.Call.{Call, Outcome, overlaid}
use Rattle.model.specs.Call.Call.{load, load_two, combine}
use Rattle.model.specs.Refusals.{is_operation, given}
use Rattle.model.specs.Rules.{leaves, combined}
use Rattle.model.specs.Run.{rule, refused, run}
use Rattle.model.proofs.Refusals.{mission-under}
use Rattle.model.proofs.Changes.{run-ruled}
use Rattle.model.proofs.Combined.{member-combined, chosen_none}
use Rattle.model.proofs.Loads.{load-alone}
use Rattle.rows.specs.Table.{Table, row_count, length_ok, start}
use Rattle.rows.specs.Words.{words, lists}
use Rattle.rows.specs.Rules.{sound}
use Rattle.rows.specs.Tidy.{Tidy}
use Rattle.rows.specs.Reach.{swept}
use Rattle.rows.proofs.Rules.{sound-facts, sound-length}
use Rattle.rows.proofs.Facts.{named-inside}
use Rattle.rows.proofs.Books.{list-names, no_start, no_empty, row-names, start-names}
use Rattle.growing.specs.Growing.{MadeRow, MadeFull}
use Rattle.settling.specs.Settled.{fits, Startable, Settles}
use Rattle.answers.specs.declared.cases.Refusal.TheVariants.{Operation, NotEmpty, NoRoom}
use Rattle.answers.specs.declared.replies.Reply.{Reply}
use Rattle.answers.specs.Replies.{answer_reply, reply_of}
use Rattle.promises.specs.Books.{book_of}
use Rattle.promises.specs.Promises.{Becomes, Changes, Promised}
use Rattle.admitting.specs.Admissions.{if_fine, first_tests}
use Rattle.admitting.proofs.Admitting.{first-begins}
use Rattle.ending.specs.Ending.{settled_answer}
use Rattle.ending.proofs.Changes.{refused-changes, fits-or-not, settled-changes}
use Rattle.filling.specs.Filling.{Loadable, highest, Combinable}
use Rattle.filling.proofs.Filling.{full-changed, row-startable, row-changed, row_same}

-- a list whose value is 0 has no names
none_or_some : (value : Words → ℕ) → ((w : Word) (l : Words) → 0 < value (w ∷ l)) → (l : Words) → value l ≡ 0 → l ≡ []
none_or_some value some [] e = refl
none_or_some value some (w ∷ l) e = absurd (omega (arith, some w l))

-- ---- a call that fills the empty list of mission m with the names l, and then answers the value v

pub record Fills (t : Table) (m : ℕ) (call : Call) (l : Words) (v : ℕ) : Type 0 where
  pub sound : sound t ≡ true
  pub mission : m < missions
  pub empty : start t m ≡ 0
  pub names : member [] l ≡ false
  pub nothing : v ≡ 0 → l ≡ []
  pub says : (done : Bool) → done ≡ fits t m l → run (book_of t) call ≡ cond done (leaves (replace (lists t) m l) v) (refused 11 (book_of t))

module _ {t : Table} {m : ℕ} {call : Call} {l : Words} {v : ℕ} (fills : Fills t m call l v) where
  pub filled-full : (u after : Table) (most : ℕ) → MadeFull most t u l → after ≡ swept u → Changes t after call (answer_reply (Err NoRoom))
  filled-full u after most full e =
      let c = full-changed t fills.sound m fills.mission fills.empty l u after most full e in
      settled-changes t after call m l v (λ _. c.refused refl) false c (fills.says false c.says)

  module _ (u : Table) (most r : ℕ) (made : MadeRow most t u l r) where
    pub filled-startable : Startable u r
    filled-startable = row-startable t fills.sound m fills.mission fills.empty l u most r made fills.names

    pub filled-settled : (after : Table) (done : Bool) → Settles u after m r done → Changes t after call (answer_reply (settled_answer done v))
    filled-settled after done settles =
        let c = row-changed t fills.sound m fills.mission fills.empty l u most r made fills.names after done settles in
        let same = row_same t fills.sound m fills.mission fills.empty l u most r made fills.names after done settles in
        settled-changes t after call m l v (λ none. same (fills.nothing none)) done c (fills.says done c.says)

-- ---- load

-- "The empty word is no name", so it is not among the names of a list
list-no-empty : (list : List ℕ) → is_list list ≡ true → member [] (names_of list) ≡ false
list-no-empty list e = fails (member [] (names_of list)) (λ m. omega (arith, member-each (λ w. 0 < length w) (names_of list) some [] m))
  where
    some : Each (λ w. 0 < length w) (names_of list)
    some = names-each (λ w. 0 < length w) (λ bytes h. rw length-map (name-parts bytes h).0) (lines_of list) (list-parts list e).2

module _ (t : Table) (m : ℕ) (first second : List ℕ) (fine : Loadable t m first second) where
  abbrev loaded : Words
  loaded = both (names_of first) (names_of second)

  pub load-not-empty : 0 < start t m → Changes t t (load_two m first second) (answer_reply (Err NotEmpty))
  load-not-empty some =
      let full = start-names t (sound-facts t fine.sound).tidy m fine.mission some in
      refused-changes t (load_two m first second) NotEmpty
      (run-ruled (book_of t) (load_two m first second)
      ∙ rw (sound-length t fine.sound, mission-under m fine.mission, fine.listed, fine.also, fine.sound, full))

  pub load-fills : start t m ≡ 0 → Fills t m (load_two m first second) loaded (length loaded)
  load-fills empty =
      record {
        sound = fine.sound;
        mission = fine.mission;
        empty = empty;
        names = member-both [] (names_of first) (names_of second) ∙ rw (list-no-empty first fine.listed, list-no-empty second fine.also);
        nothing = none_or_some length (λ w l. omega arith) loaded;
        says = λ done e. run-ruled (book_of t) (load_two m first second)
            ∙ rw (sound-length t fine.sound, mission-under m fine.mission, fine.listed, fine.also, fine.sound, none)
            (fits-or-not t m loaded (book_of t) _ done e);
      }
    where
      none : list_of (lists t) m ≡ []
      none = no_start t m fine.mission empty

  -- no more names than bytes
  pub loaded-few : length loaded ≤ longest_list + longest_list
  loaded-few =
      let all = rw (length-map, length-map) at (both-few (names_of first) (names_of second)) in
      omega (arith, (list-parts first fine.listed).0, (list-parts second fine.also).0, lines-few first, lines-few second)

-- a load of one list is the load of two of which the second is empty
pub alone-promised : (t after : Table) (m : ℕ) (list : List ℕ) (reply : Reply) → Promised t after [] [] (load_two m list []) reply
    → Promised t after [] [] (load m list) reply
alone-promised t after m list reply p =
    let same = load-alone (book_of t) m list in
    record {
      answers = p.answers ∙ ap reply_of same;
      buffer = p.buffer ∙ ap (λ (o : Outcome). overlaid o.written []) same;
      table = subst (Becomes t after) same p.table;
    }

-- ---- combine

-- "a mission number over 15": one of three is, if the greatest is
over_any : (a b c : ℕ) → ltb last_mission (highest a b c) ≡ (ltb last_mission a || ltb last_mission b || ltb last_mission c)
over_any a b c = go (ltb last_mission a) refl (ltb last_mission b) refl (ltb last_mission c) refl
  where
    go : (x : Bool) → ltb last_mission a ≡ x → (y : Bool) → ltb last_mission b ≡ y → (z : Bool) → ltb last_mission c ≡ z
        → ltb last_mission (highest a b c) ≡ (x || y || z)
    go true d y e z f = lt-ltb last_mission (highest a b c) (omega (arith, ltb-true last_mission a d))
    go false d true e z f = lt-ltb last_mission (highest a b c) (omega (arith, ltb-true last_mission b e))
    go false d false e true f = lt-ltb last_mission (highest a b c) (omega (arith, ltb-true last_mission c f))
    go false d false e false f =
        le-ltb last_mission (highest a b c) (omega (arith, ltb-false last_mission a d, ltb-false last_mission b e, ltb-false last_mission c f))

-- the first refusals of combine are the first tests of a call
pub combine-begins : (t : Table) (op a b c : ℕ) → let refusals = (rule (book_of t) (combine op a b c)).refusals in
    given refusals ≡ given (first_tests (book_of t) (highest a b c) (if_fine (is_operation op) Operation) ++ drop 6 refusals)
combine-begins t op a b c =
    rw (over_any a b c) (go (ltb last_mission a) (ltb last_mission b) (ltb last_mission c))
    ∙ first-begins (book_of t) (highest a b c) (is_operation op) Operation (drop 6 (rule (book_of t) (combine op a b c)).refusals)
  where
    rest : ℕ
    rest = given (drop 4 (rule (book_of t) (combine op a b c)).refusals)

    go : (x y z : Bool) → cond (not (length_ok t)) 1 (cond x 2 (cond y 2 (cond z 2 rest))) ≡ cond (not (length_ok t)) 1 (cond (x || y || z) 2 rest)
    go true y z = refl
    go false true z = refl
    go false false true = refl
    go false false false = refl

module _ (t : Table) (op a b c : ℕ) (fine : Combinable t op a b c) where
  pub first : a < missions
  first = omega (arith, fine.missions)

  pub second : b < missions
  second = omega (arith, fine.missions)

  pub third : c < missions
  third = omega (arith, fine.missions)

  pub combine-not-empty : 0 < start t c → Changes t t (combine op a b c) (answer_reply (Err NotEmpty))
  combine-not-empty some =
      let full = start-names t (sound-facts t fine.sound).tidy c third some in
      refused-changes t (combine op a b c) NotEmpty
      (run-ruled (book_of t) (combine op a b c)
      ∙ rw (sound-length t fine.sound, mission-under a first, mission-under b second, mission-under c third, fine.operation, fine.sound, full))

  abbrev result : Words
  result = combined op (words t (start t a)) (words t (start t b))

  pub combine-fills : start t c ≡ 0 → Fills t c (combine op a b c) result (flag (has_names result))
  combine-fills empty =
      record {
        sound = fine.sound;
        mission = third;
        empty = empty;
        names = member-combined op [] _ _ ∙ rw (no_empty t tidy a first, no_empty t tidy b second) (chosen_none op);
        nothing = none_or_some (λ l. flag (has_names l)) (λ w l. omega arith) result;
        says = says;
      }
    where
      tidy : Tidy t
      tidy = (sound-facts t fine.sound).tidy

      none : list_of (lists t) c ≡ []
      none = no_start t c third empty

      says : (done : Bool) → done ≡ fits t c result
          → run (book_of t) (combine op a b c) ≡ cond done (leaves (replace (lists t) c result) (flag (has_names result))) (refused 11 (book_of t))
      says done e =
          run-ruled (book_of t) (combine op a b c)
          ∙ rw (
            sound-length t fine.sound,
            mission-under a first,
            mission-under b second,
            mission-under c third,
            fine.operation,
            fine.sound,
            none,
            list-names t a first,
            list-names t b second,
          )
          (fits-or-not t c result (book_of t) _ done e)

-- "combine 1 if the result has a name, else 0": it has one if it has a row
pub combined-value : {t u : Table} {l : Words} {r : ℕ} (most : ℕ) → MadeRow most t u l r → flag (ltb 0 r) ≡ flag (has_names l)
combined-value {u = u} {r = r} most made =
    let tidy = made.grows.tidy in
    rw (
      ← made.has,
      ← (row-names u tidy r made.named),
      lt-ltb r (row_count u) (named-inside u tidy r made.named),
      and-true,
    )
