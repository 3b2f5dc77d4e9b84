-- The laws of growth: a grown table keeps the rows that are in use. What is read from a row, its words and the rows that it reaches, is read
-- from the row itself and from its targets; so two tables that agree in some rows and in the targets of these, and so on, read the same from
-- them, by induction over the fuel, and the words also where the rows stand elsewhere. In a tidy table the rows in use are such rows, and the starts are among them. Assumes nothing.
use Prim.Native.Nat.{ℕ, zero, suc, ◌+◌, ◌*◌, ◌<◌}
use native.Mathlib.Omega.{arith}
use mathlib.Core.Path.{◌≡◌, refl, ◌∙◌, ap}
use mathlib.Core.Bool.{Bool, true, false, cond, ◌&&◌, ◌||◌}
use mathlib.Core.List.{[], ◌∷◌, ◌++◌}
use lib.Dec.{eqb}
use lib.ListN.{length, get_or}
use Rattle.letters.specs.Each.{some}
use Rattle.letters.specs.Letters.{letters}
use Rattle.letters.specs.Names.{longest}
use Rattle.letters.proofs.Tests.{by-test}
use Rattle.sets.specs.Below.{some_below}
use Rattle.sets.specs.Sets.{Words}
use Rattle.sets.proofs.Membership.{some-agree, map-agree}
use Rattle.sets.proofs.Below.{over_agree, below-agree}
use Rattle.model.specs.Lists.{missions}
use Rattle.rows.specs.Table.{Table, width, is_row, start, starts, mark, height, target, number39}
use Rattle.rows.specs.Words.{short_words, words, lists}
use Rattle.rows.specs.Tidy.{Used, Named, Tidy}
use Rattle.rows.specs.Reach.{reaches_in, reaches, reached}
use Rattle.rows.specs.Growth.{Grown}
use Rattle.rows.proofs.Facts.{used-same, named-row, target-named}
use Rattle.rows.proofs.Cells.{same-mark, same-height, same_target, same-number39}
use Rattle.rows.proofs.Books.{starts-named}

-- a map of the rows carries these rows of t, to which the targets of each belong, to rows of u with the same marks and with the targets
-- carried along
module _ (t u : Table) (These : ℕ → Type 0) (to : ℕ → ℕ) (rows : (n : ℕ) → These n → is_row u (to n) ≡ is_row t n)
    (marks : (n : ℕ) → These n → is_row t n ≡ true → mark u (to n) ≡ mark t n)
    (targets : (n x : ℕ) → These n → is_row t n ≡ true → x < letters → These (target t n x) × (target u (to n) x ≡ to (target t n x))) where
  short-carried : (most n : ℕ) → These n → short_words most u (to n) ≡ short_words most t n
  unfolding short_words
  short-carried zero n p = refl
  short-carried (suc most) n p =
      by-test (is_row t n)
      (λ row.
      rw (rows n p, row, marks n p row)
      (ap (λ (l : Words). cond (eqb (mark t n) 2) ([] ∷ []) [] ++ l)
      (over_agree letters _ _ (λ x h. let (q, e) = targets n x p row h in rw (e, short-carried most (target t n x) q)))))
      (λ out. rw (rows n p, out))

  pub words-carried : (n : ℕ) → These n → words u (to n) ≡ words t n
  words-carried = short-carried (suc longest)

-- tables of one length that agree in these rows
module _ (t u : Table) (These : ℕ → Type 0) (long : length u ≡ length t)
    (next : (n x : ℕ) → These n → is_row t n ≡ true → x < letters → These (target t n x))
    (cells : (n i : ℕ) → These n → is_row t n ≡ true → i < width → get_or u (n * width + i) 0 ≡ get_or t (n * width + i) 0) where
  pub words_same : (n : ℕ) → These n → words u n ≡ words t n
  words_same =
      words-carried t u These (λ n. n) (λ n p. rw long) (λ n p row. same-mark t u n (λ i. cells n i p row))
      (λ n x p row h. (next n x p row h, same_target t u n (λ i. cells n i p row) x h))

  within_same : (most n s : ℕ) → These n → reaches_in most u n s ≡ reaches_in most t n s
  unfolding reaches_in
  within_same zero n s p = refl
  within_same (suc most) n s p = rw long (go (λ k. within_same most k s) (is_row t n) refl)
    where
      go : ((k : ℕ) → These k → reaches_in most u k s ≡ reaches_in most t k s) → (b : Bool) → is_row t n ≡ b
          → (b && (eqb n s || some_below letters (λ x. reaches_in most u (target u n x) s)))
          ≡ (b && (eqb n s || some_below letters (λ x. reaches_in most t (target t n x) s)))
      go rest true row =
          rw (below-agree letters (λ x. reaches_in most u (target u n x) s) (λ x. reaches_in most t (target t n x) s)
          (λ x h. rw (same_target t u n (λ i. cells n i p row) x h, rest (target t n x) (next n x p row h))))
      go rest false row = refl

  reaches_same : (n s : ℕ) → These n → reaches u n s ≡ reaches t n s
  reaches_same = within_same (suc longest)

pub grown-self : (t : Table) → Grown t t
grown-self t = record { long = refl; head = λ i h. refl; kept = λ r i p h. refl }

module _ (t u : Table) (grown : Grown t u) where
  -- all forty numbers of a row in use
  pub mark-kept : (r : ℕ) → Used t r → mark u r ≡ mark t r
  mark-kept r p = same-mark t u r (λ i. grown.kept r i p)

  pub height-kept : (r : ℕ) → Used t r → height u r ≡ height t r
  height-kept r p = same-height t u r (λ i. grown.kept r i p)

  pub target-kept : (r x : ℕ) → Used t r → x < letters → target u r x ≡ target t r x
  target-kept r x p = same_target t u r (λ i. grown.kept r i p) x

  pub number39-kept : (r : ℕ) → Used t r → number39 u r ≡ number39 t r
  number39-kept r p = same-number39 t u r (λ i. grown.kept r i p)

  pub used-kept : (r : ℕ) → Used t r → Used u r
  used-kept r p = used-same grown.long (mark-kept r p) p

  pub named-kept : (n : ℕ) → Named t n → Named u n
  named-kept n named some = used-kept n (named some)

  starts-kept : starts u ≡ starts t
  starts-kept =
      over_agree missions (λ m. start u m ∷ []) (λ m. start t m ∷ []) (λ m h. rw (grown.head m (omega arith)))

  module _ (tidy : Tidy t) where
    next-named : (n x : ℕ) → Named t n → is_row t n ≡ true → x < letters → Named t (target t n x)
    next-named n x named row h = target-named t tidy n x (named-row named row) h

    cells-kept : (n i : ℕ) → Named t n → is_row t n ≡ true → i < width → get_or u (n * width + i) 0 ≡ get_or t (n * width + i) 0
    cells-kept n i named row h = grown.kept n i (named-row named row) h

    pub words-kept : (n : ℕ) → Named t n → words u n ≡ words t n
    words-kept = words_same t u (Named t) grown.long next-named cells-kept

    pub lists-kept : lists u ≡ lists t
    lists-kept = rw starts-kept (map-agree (Named t) (λ n. words u n) (λ n. words t n) words-kept (starts t) (starts-named t tidy))

    pub reached-kept : (s : ℕ) → reached u s ≡ reached t s
    reached-kept s =
        rw starts-kept
        (some-agree (Named t) (λ n. reaches u n s) (λ n. reaches t n s)
        (λ n. reaches_same t u (Named t) grown.long next-named cells-kept n s) (starts t) (starts-named t tidy))

pub grown-on : (t u v : Table) → Grown t u → Grown u v → Grown t v
grown-on t u v g k =
    record {
      long = k.long ∙ g.long;
      head = λ i h. k.head i h ∙ g.head i h;
      kept = λ r i p h. k.kept r i (used-kept t u g r p) h ∙ g.kept r i p h;
    }
