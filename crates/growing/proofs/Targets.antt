-- A row letter by letter: a row is made for each target, all of them for words that are left of those of the row, and then the row itself.
-- How many rows are in use after it is not counted: there are never more than there are. Assumes nothing.
use Prim.Native.Nat.{ℕ, ◌≤◌, ◌<◌}
use native.Mathlib.Omega.{arith}
use native.Mathlib.Decide.{ℕ_discrete}
use mathlib.Core.Path.{◌≡◌, refl, sym, ◌∙◌}
use mathlib.Core.Bool.{Bool, true, false}
use mathlib.Core.List.{List, [], ◌∷◌}
use Rattle.std.specs.Prelude.{Result, Err}
use lib.Dec.{eqb}
use lib.ListN.{length, get_or, set, replicate, length-set, get_or-replicate}
use lib.Seq.{get_or-set_same, get_or-set_other}
use borrow.Author.Tests.{lt-ltb}
use Rattle.letters.specs.Each.{Each}
use Rattle.letters.specs.Letters.{letters}
use Rattle.letters.specs.Names.{longest}
use Rattle.letters.specs.Words.{Word, Spelled}
use Rattle.sets.specs.Sets.{Words, Plain, member}
use Rattle.sets.specs.Residuals.{after}
use Rattle.sets.proofs.Sets.{member-each, members-each, plain-ext}
use Rattle.sets.proofs.Residuals.{member-after}
use Rattle.rows.specs.Table.{Table, row_count}
use Rattle.rows.specs.Words.{words}
use Rattle.rows.specs.Tidy.{Tidy}
use Rattle.rows.proofs.Facts.{no_row}
use Rattle.rows.proofs.Words.{fan-empty, fan-word, fan-plain, words-plain, words-none}
use Rattle.rows.proofs.Growth.{named-kept, words-kept}
use Rattle.growing.specs.declared.makes.Full.{Full}
use Rattle.growing.specs.Rows.{end_mark, words_over}
use Rattle.growing.specs.Growing.{Fitting, MadeRow, MadeFull, Makes, TargetsMade}
use Rattle.growing.proofs.Growing.{Within, grows_self, grows-within, grows-on, makes-on, full-within}

pub end_marked : (k : ℕ) (ends : Bool) → k ≡ end_mark ends → (0 < k) × (k ≤ 2)
end_marked k true e = (omega arith, omega arith)
end_marked k false e = (omega arith, omega arith)

-- the mark says whether a name may end there
pub mark-ends : (ends : Bool) → eqb (end_mark ends) 2 ≡ ends
mark-ends true = refl
mark-ends false = refl

-- no target yet
pub targets-none : (t : Table) → Tidy t → (l : Words) → TargetsMade t t l (λ x. []) (replicate letters 0)
targets-none t tidy l =
    record {
      grows = grows_self t tidy l;
      long = refl;
      named = λ x h. rw (none x h) (λ some. absurd (omega arith));
      has = λ x h. rw (none x h) (words-none t 0 (no_row t 0 refl));
    }
  where
    none : (x : ℕ) → x < letters → get_or {A = ℕ} (replicate letters 0) x 0 ≡ 0
    none x h = get_or-replicate letters x 0 0 h

module _ {t u : Table} {l : Words} {given : ℕ → Words} {ts : List ℕ} (so_far : TargetsMade t u l given ts) where
  -- a row for l after that, with no count of the rows
  made-on : (v : Table) (most : ℕ) (made : Result ℕ Full) → Makes most u v l made → Makes (row_count t) t v l made
  made-on v most = makes-on so_far.grows v l (λ ls needed. needed) most (row_count t) (λ n h _. omega arith)

  -- one more target
  pub targets-more : (v : Table) (most x n : ℕ) (more : ℕ → Words) → x < letters → MadeRow most u v (more x) n → Within (more x) l
      → ((y : ℕ) → y < letters → (y ≡ x → ⊥) → more y ≡ given y) → TargetsMade t v l more (set ts x n)
  targets-more v most x n more h made within others =
      record {
        grows = grows-on so_far.grows (grows-within made.grows within) (λ ls needed. needed);
        long = length-set ts x n ∙ so_far.long;
        named = λ y g. elim (ℕ_discrete y x) [
          | yes e ↦ rw (e, here) made.named
          | no e ↦ rw (get_or-set_other ts x y n 0 e) (named-kept u v made.grows.grown _ (so_far.named y g))
        ];
        has = λ y g. elim (ℕ_discrete y x) [
          | yes e ↦ rw (e, here) made.has
          | no e ↦
              rw (get_or-set_other ts x y n 0 e, words-kept u v made.grows.grown so_far.grows.tidy _ (so_far.named y g))
              (so_far.has y g ∙ sym (others y g e))
        ];
      }
    where
      here : get_or (set ts x n) x 0 ≡ n
      here = get_or-set_same ts x n 0 (rw so_far.long h)

  -- no row is free for a target
  pub targets-full : (v : Table) (most : ℕ) (k : Words) → MadeFull most u v k → Within k l → MadeFull (row_count t) t v l
  targets-full v most k full within = made-on v most (Err (record {})) (full-within full within)

  -- every target is there: the row has the words l
  module _ (plain : Plain l) (short : Each (λ w. length w ≤ longest) l) (all : (x : ℕ) → x < letters → given x ≡ after x l) where
    target-words : (x : ℕ) → x < letters → words u (get_or ts x 0) ≡ after x l
    target-words x h = so_far.has x h ∙ all x h

    -- with either mark
    pub targets-fit : (k : ℕ) → (0 < k) × (k ≤ 2) → Fitting u k ts
    targets-fit k mark =
        record {
          some = mark.0;
          most = mark.1;
          named = so_far.named;
          short = λ x h. rw (target-words x h)
              (members-each (λ w. length w < longest) (after x l)
              (λ w m. member-each (λ w. length w ≤ longest) l short (x ∷ w) (sym (member-after x w l) ∙ m)));
        }

    pub over-words : words_over u (end_mark (member [] l)) ts ≡ l
    over-words = plain-ext _ l (fan-plain (end_mark (member [] l)) _ (λ x. words-plain u _)) plain same
      where
        same : (w : Word) → Spelled w → member w (words_over u (end_mark (member [] l)) ts) ≡ member w l
        same [] s = rw fan-empty (mark-ends (member [] l))
        same (x ∷ w) s = rw (fan-word, lt-ltb x letters s.0, target-words x s.0) (member-after x w l)

    pub targets-made : (v : Table) (made : Result ℕ Full) → Makes 1 u v (words_over u (end_mark (member [] l)) ts) made → Makes (row_count t) t v l made
    targets-made v made m = made-on v 1 made (rw over-words at m)
