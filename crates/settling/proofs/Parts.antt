-- A table v is a part of a table t if its rows in use are rows in use of t, number for number, and with a row it has the row's targets. Then
-- all that the rules say of a row in use of t they say of the same row of v. So a part of a tidy table is tidy, if its head and its free rows
-- are as they must be. Assumes nothing.
use Prim.Native.Nat.{ℕ, ◌+◌, ◌*◌, ◌≤◌, ◌<◌}
use mathlib.Core.Path.{◌≡◌, sym, ◌∙◌}
use lib.ListN.{length, get_or}
use Rattle.letters.specs.Letters.{letters}
use Rattle.model.specs.Lists.{missions}
use Rattle.rows.specs.Table.{Table, width, row_count, start, mark, height, target}
use Rattle.rows.specs.Tidy.{Used, Arc, Tidy}
use Rattle.rows.proofs.Cells.{same-mark, same-height, same_target, same-number39}

pub record Part (t v : Table) : Type 0 where
  pub long : length v ≡ length t
  pub used : (r : ℕ) → Used v r → Used t r
  pub cells : (r i : ℕ) → Used v r → i < width → get_or v (r * width + i) 0 ≡ get_or t (r * width + i) 0
  pub targets : (r x : ℕ) → Used v r → Arc t r x → Used v (target t r x)

module _ (t v : Table) (part : Part t v) where
  pub part-mark : (r : ℕ) → Used v r → mark v r ≡ mark t r
  part-mark r p = same-mark t v r (λ i. part.cells r i p)

  part-height : (r : ℕ) → Used v r → height v r ≡ height t r
  part-height r p = same-height t v r (λ i. part.cells r i p)

  pub part-target : (r x : ℕ) → Used v r → x < letters → target v r x ≡ target t r x
  part-target r x p = same_target t v r (λ i. part.cells r i p) x

  arc-in : (r x : ℕ) → Arc v r x → Arc t r x
  arc-in r x a =
      record { used = part.used r a.used; letter = a.letter; there = rw (part-target r x a.used a.letter) at a.there }

  pub part-arc : (r x : ℕ) → Used v r → Arc t r x → Arc v r x
  part-arc r x p a = record { used = p; letter = a.letter; there = rw (part-target r x p a.letter) a.there }

  -- a target is as high in v as in t
  target-height : (r x : ℕ) → Arc v r x → height v (target v r x) ≡ height t (target t r x)
  target-height r x a =
      rw (part-target r x a.used a.letter) (part-height (target t r x) (part.targets r x a.used (arc-in r x a)))

  pub part-tidy : Tidy t
      → ((m : ℕ) → m < missions → 0 < start v m → Used v (start v m) × (mark v (start v m) ≡ 1))
      → ((i : ℕ) → missions ≤ i → i < width → get_or v i 0 ≡ 0)
      → ((r i : ℕ) → 0 < r → r < row_count v → mark v r ≡ 0 → i < width → get_or v (r * width + i) 0 ≡ 0)
      → Tidy v
  part-tidy tidy starts rest zeros =
      record {
        whole = rw part.long tidy.whole;
        least = rw part.long tidy.least;
        most = rw part.long tidy.most;
        starts = starts;
        rest = rest;
        marks = λ r p. rw (part-mark r p) (tidy.marks r (part.used r p));
        zeros = zeros;
        targets = λ r x a. rw (part-target r x a.used a.letter) (part.targets r x a.used (arc-in r x a));
        lower = λ r x a. rw (target-height r x a, part-height r a.used) (tidy.lower r x (arc-in r x a));
        tight = λ r top p f.
            rw (part-height r p)
            (tidy.tight r top (part.used r p)
            (λ x a. let b = part-arc r x p a in rw (target-height r x b) at (f x b)));
        low = λ r p. rw (part-height r p) (tidy.low r (part.used r p));
        numbers39 = λ r p. same-number39 t v r (λ i. part.cells r i p) ∙ tidy.numbers39 r (part.used r p);
        arc = λ r p e.
            let (x, a) = tidy.arc r (part.used r p) (sym (part-mark r p) ∙ e) in
            (x, part-arc r x p a);
        apart = λ r s p q e f.
            tidy.apart r s (part.used r p) (part.used s q) (cc (e, part-mark r p, part-mark s q))
            (λ x h. cc (f x h, part-target r x p h, part-target s x q h));
      }
