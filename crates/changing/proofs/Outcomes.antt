-- What add, remove and clear come to. Where the list is as wanted already, the lists after the change are those before it, and a sound book
-- has room for them; else the change was settled. Assumes nothing.
use Prim.Native.Nat.{ℕ, suc, ◌<◌}
use native.Mathlib.Omega.{arith}
use mathlib.Core.Path.{◌≡◌, refl, sym, ◌∙◌}
use mathlib.Core.Bool.{Bool, true, false, cond, not, beq, false≢true}
use mathlib.Core.List.{List, []}
use lib.ListN.{length, drop}
use Rattle.std.specs.Prelude.{Ok, Err}
use Rattle.letters.specs.LetterSet.{flag}
use Rattle.letters.specs.Words.{Word, Spelled, word_of, same as same_word}
use Rattle.letters.specs.Names.{is_name}
use Rattle.letters.proofs.Words.{word-rest, name-parts}
use Rattle.letters.proofs.Ordering.{same-eq}
use Rattle.sets.specs.Sets.{Words, member, Plain}
use Rattle.sets.proofs.Sets.{plain-ext}
use Rattle.model.specs.Lists.{missions, list_of, replace, has_names}
use Rattle.model.specs.Call.{Book}
use Rattle.model.specs.Call.Call.{add, remove, clear}
use Rattle.model.specs.Refusals.{given}
use Rattle.model.specs.Rules.{with_name, leaves, set_rule}
use Rattle.model.specs.Run.{refused, ruled, run}
use Rattle.model.proofs.Changes.{run-ruled}
use Rattle.model.proofs.Lists.{replace-itself}
use Rattle.model.proofs.Names.{member-with-name, plain-with-name, with-name-empty}
use Rattle.model.proofs.Refusals.{mission-under}
use Rattle.rows.specs.Table.{Table, start}
use Rattle.rows.specs.Words.{words, lists}
use Rattle.rows.specs.Rules.{sound}
use Rattle.rows.proofs.Rules.{sound-facts, sound-length}
use Rattle.rows.proofs.Facts.{no_row}
use Rattle.rows.proofs.Words.{words-plain, words-none}
use Rattle.rows.proofs.Growth.{grown-self}
use Rattle.rows.proofs.Books.{list-names, no_start, no_empty, start-names}
use Rattle.growing.specs.Growing.{MadeRow, MadeFull}
use Rattle.settling.specs.Settled.{fits, Startable, Settles, Changed}
use Rattle.settling.proofs.Settling.{no-row-startable, clear-fits, settled}
use Rattle.answers.specs.declared.cases.Refusal.{Refusal}
use Rattle.answers.specs.declared.cases.Refusal.TheVariants.{Name}
use Rattle.answers.specs.Replies.{refusal_number, answer_reply}
use Rattle.promises.specs.Books.{book_of}
use Rattle.promises.specs.Promises.{Changes}
use Rattle.admitting.specs.Admissions.{if_fine, first_tests}
use Rattle.admitting.proofs.Admitting.{first-begins, refused-first}
use Rattle.ending.specs.Ending.{settled_answer}
use Rattle.ending.proofs.Changes.{refused-changes, same-changes, same-fits, fits-or-not, done-changes, settled-changes}
use Rattle.changing.specs.Changing.{set_call}

-- "1 if the list changed, else 0": the name is as wanted, or it is not
pub beq_same : (a b : Bool) → beq a b ≡ true → a ≡ b
beq_same true true e = refl
beq_same true false e = absurd (false≢true e)
beq_same false true e = absurd (false≢true e)
beq_same false false e = refl

pub beq-other : (a b : Bool) → beq a b ≡ false → a ≡ not b
beq-other true true e = absurd (false≢true (sym e))
beq-other true false e = refl
beq-other false true e = refl
beq-other false false e = absurd (false≢true (sym e))

-- add and remove go by one rule
set-ruled : (b : Book) (on : Bool) (m : ℕ) (name : List ℕ) → run b (set_call on m name) ≡ ruled b (set_rule on b m name)
set-ruled b true m name = run-ruled b (add m name)
set-ruled b false m name = run-ruled b (remove m name)

-- their first tests refuse them
pub set-refused : (t : Table) (on : Bool) (m : ℕ) (name : List ℕ) (why : Refusal)
    → refusal_number why ≡ given (first_tests (book_of t) m (if_fine (is_name name) Name)) → Changes t t (set_call on m name) (answer_reply (Err why))
set-refused t on m name why number =
    let b = book_of t in
    let more = drop 4 (set_rule on b m name).refusals in
    refused-changes t (set_call on m name) why
    (set-ruled b on m name
    ∙ refused-first b (set_rule on b m name) (first_tests b m (if_fine (is_name name) Name)) more
    (first-begins b m (is_name name) Name more) why number)

module _ (t : Table) (s : sound t ≡ true) (m : ℕ) (h : m < missions) where
  abbrev list : Words
  list = list_of (lists t) m

  -- add and remove
  module _ (on : Bool) (name : List ℕ) (named : is_name name ≡ true) where
    abbrev wanted : Words
    wanted = with_name on (word_of name) list

    set-run : (b : Bool) → member (word_of name) list ≡ b → (done : Bool) → done ≡ fits t m wanted
        → run (book_of t) (set_call on m name)
        ≡ cond done (leaves (replace (lists t) m wanted) (flag (not (beq b on)))) (refused 11 (book_of t))
    set-run b e done f =
        set-ruled (book_of t) on m name ∙ rw (sound-length t s, mission-under m h, named, s, e) (fits-or-not t m wanted (book_of t) _ done f)

    -- the name is as wanted already
    pub set_same : member (word_of name) list ≡ on → Changes t t (set_call on m name) (answer_reply (Ok 0))
    set_same e =
        same-changes t (set_call on m name) (set-run on e true (sym (rw same (same-fits t s m))) ∙ rw (same, replace-itself) (go on))
      where
        spelled : Spelled (word_of name)
        spelled = (name-parts name named).2

        plain : Plain list
        plain = rw (list-names t m h) (words-plain t (start t m))

        same : wanted ≡ list
        same = plain-ext wanted list (plain-with-name on (word_of name) list spelled plain) plain agrees
          where
            agrees : (v : Word) → Spelled v → member v wanted ≡ member v list
            agrees v _ = member-with-name on v (word_of name) list ∙ alike (same_word v (word_of name)) refl
              where
                alike : (b : Bool) → same_word v (word_of name) ≡ b → cond b on (member v list) ≡ member v list
                alike true d = rw (same-eq v (word_of name) d) (sym e)
                alike false d = refl

        go : (on : Bool) → leaves (lists t) (flag (not (beq on on))) ≡ leaves (lists t) 0
        go true = refl
        go false = refl

    -- the name is not yet as wanted, and the change was settled
    set-settled : member (word_of name) list ≡ not on → (after : Table) (done : Bool) → Changed t after m wanted done
        → Changes t after (set_call on m name) (answer_reply (settled_answer done 1))
    set-settled e after done c =
        settled-changes t after (set_call on m name) m wanted 1 (λ none. absurd (omega arith)) done c (set-run (not on) e done c.says ∙ go on done)
      where
        go : (on done : Bool) → cond done (leaves (replace (lists t) m wanted) (flag (not (beq (not on) on)))) (refused 11 (book_of t))
            ≡ cond done (leaves (replace (lists t) m wanted) 1) (refused 11 (book_of t))
        go true done = refl
        go false done = refl

    -- what `path` comes to: at most 25 rows more, and the 25 above the room were free; so it is never full, and its row is settled
    module _ (u : Table) where
      pub never-full : (l : Words) → MadeFull (suc (length name)) t u l → ⊥
      never-full l full =
          let (_, short, _) = name-parts name named in
          omega (arith, full.full, full.few, full.grows.grown.long, (sound-facts t s).fits, short, (sound-facts t s).tidy.least)

      module _ (most n : ℕ) (made : MadeRow most t u (with_name on (word_of name) (words t (start t m))) n) where
        pub path-startable : Startable u n
        path-startable = record { named = made.named; no_empty = rw made.has (with-name-no-empty ∙ no_empty t (sound-facts t s).tidy m h) }
          where
            with-name-no-empty : member [] (with_name on (word_of name) (words t (start t m))) ≡ member [] (words t (start t m))
            with-name-no-empty = rw (word-rest name (name-parts name named).0) (with-name-empty on _ _ _)

        pub path-settled : member (word_of name) list ≡ not on → (after : Table) (done : Bool) → Settles u after m n done
            → Changes t after (set_call on m name) (answer_reply (settled_answer done 1))
        path-settled e after done settles =
            let same : words u n ≡ wanted = rw (made.has, list-names t m h) in
            set-settled e after done
            (rw same at (settled t u after s made.grows.tidy made.grows.grown m n h path-startable done settles))

  -- clear
  clear-run : (b : Bool) → has_names list ≡ b → run (book_of t) (clear m) ≡ leaves (replace (lists t) m []) (flag b)
  unfolding run
  clear-run b e = rw (sound-length t s, mission-under m h, s, e)

  pub clear_none : start t m ≡ 0 → Changes t t (clear m) (answer_reply (Ok 0))
  clear_none e =
      let none = no_start t m h e in
      same-changes t (clear m) (clear-run false (rw none) ∙ rw (← none, replace-itself))

  pub clear-settled : 0 < start t m → (after : Table) (done : Bool) → Settles t after m 0 done → Changes t after (clear m) (answer_reply (Ok 1))
  clear-settled some after done settles =
      let tidy = (sound-facts t s).tidy in
      let none : words t 0 ≡ [] = words-none t 0 (no_row t 0 refl) in
      let c = rw none at (settled t t after s tidy (grown-self t) m 0 h (no-row-startable t) done settles) in
      let all : done ≡ true = c.says ∙ clear-fits t s m in
      done-changes t after (clear m) _ 1 (λ none. absurd (omega arith)) (clear-run true (start-names t tidy m h some)) c.long c.sound (rw all at c.lists)
