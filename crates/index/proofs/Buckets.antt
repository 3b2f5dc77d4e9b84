-- The key goes by the mark and the targets alone, so rows that agree in them have the same key, and so the same bucket. A letter without a target
-- adds nothing. Assumes nothing.
use Prim.Native.Nat.{ℕ, suc, ◌+◌, ◌*◌, ◌<◌}
use mathlib.Core.Path.{◌≡◌, refl}
use mathlib.Core.Bool.{Bool, true, false}
use native.Mathlib.Omega.{arith}
use borrow.Author.Tests.{eq-eqb, ne_eqb, eqb-true, eqb-false}
use lib.Dec.{eqb}
use Rattle.letters.specs.Letters.{letters}
use Rattle.rows.specs.Table.{Table, row_count, mark}
use Rattle.rows.specs.Tidy.{Used}
use Rattle.sets.specs.Below.{total}
use Rattle.sets.proofs.Below.{total-agree}
use Rattle.index.specs.Buckets.{factor, mix, key_of, row_key, bucket_of, bucket, buckets}

pub same_key : (k : ℕ) (f g : ℕ → ℕ) → ((x : ℕ) → x < letters → f x ≡ g x) → key_of k f ≡ key_of k g
unfolding mix
same_key k f g same = rw (total-agree letters (λ x. f x * factor x) (λ x. g x * factor x) (λ x h. rw (same x h)))

pub mix-none : (k : ℕ) (f g : ℕ → ℕ) → mix k f 0 ≡ mix k g 0
unfolding mix total
mix-none k f g = refl

pub mix-more : (k : ℕ) (f : ℕ → ℕ) (x : ℕ) → mix k f x + f x * factor x ≡ mix k f (suc x)
unfolding mix total
mix-more k f x = omega arith

-- a letter without a target
pub mix-zero : (k : ℕ) (f : ℕ → ℕ) (x : ℕ) → f x ≡ 0 → mix k f (suc x) ≡ mix k f x
unfolding mix total
mix-zero k f x none = rw none (omega arith)

-- the bucket of a row in use, and of a free one
pub bucket-used : {t : Table} {r : ℕ} → Used t r → bucket t r ≡ bucket_of (row_key t r)
bucket-used {t} {r} u = rw (ne_eqb (mark t r) 0 (λ e. omega (arith, u.marked)))

pub bucket-free : (t : Table) (r : ℕ) → mark t r ≡ 0 → bucket t r ≡ 0
bucket-free t r e = rw (eq-eqb (mark t r) 0 e)

-- a row in a bucket from 1 on is in use
pub in-bucket : (t : Table) (r b : ℕ) → 0 < r → r < row_count t → bucket t r ≡ suc b → Used t r
in-bucket t r b some inside e = go (eqb (mark t r) 0) refl
  where
    go : (b : Bool) → eqb (mark t r) 0 ≡ b → Used t r
    go true free = absurd (omega (arith, e, bucket-free t r (eqb-true (mark t r) 0 free)))
    go false taken =
        record { positive = some; inside = inside; marked = omega (arith, eqb-false (mark t r) 0 taken) }

pub bucket-small : (t : Table) (r : ℕ) → bucket t r < buckets
bucket-small t r = go (eqb (mark t r) 0) refl
  where
    go : (b : Bool) → eqb (mark t r) 0 ≡ b → bucket t r < buckets
    go true free = rw free (omega arith)
    go false taken = rw taken (omega arith)
