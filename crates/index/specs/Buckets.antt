-- The bucket of a row comes from its mark and its targets, so rows that agree in them are in the same one. Nothing but the time rests on how they are
-- mixed. Assumes nothing.
use Rattle.std.specs.Prelude.{ℕ, suc, ◌+◌, ◌*◌, ◌/◌, ◌%◌, cond, eqb}
use Rattle.letters.specs.Letters.{letters}
use Rattle.sets.specs.Below.{total}
use Rattle.rows.specs.Table.{Table, mark, target}

-- factors below 2 to the power 32, one for the mark and one for each letter, that have nothing to do with each other
abbrev pub modulus : ℕ
modulus = 4294967296

abbrev mark_factor : ℕ
mark_factor = 2654435761

abbrev pub root : ℕ → ℕ
root x = (x * 2654435761 + 1640531527) % modulus

abbrev pub factor : ℕ → ℕ
factor x = root x * root x % modulus

-- a mark and the targets of the letters below n, each times its factor; no target adds nothing
unfoldable pub mix : ℕ → (ℕ → ℕ) → ℕ → ℕ
mix mark targets n = mark * mark_factor + total n (λ x. targets x * factor x)

-- more than a number of the table times a factor: 2 to the power 48
abbrev pub product_bound : ℕ
product_bound = 281474976710656

-- the key of what was mixed: sixteen bits of it, on which all of the lower ones have an effect
abbrev pub key_from : ℕ → ℕ
key_from m = m / 65536 % 65536

-- the key of a mark and targets, and of a row
abbrev pub key_of : ℕ → (ℕ → ℕ) → ℕ
key_of mark targets = key_from (mix mark targets letters)

abbrev pub row_key : Table → ℕ → ℕ
row_key t r = key_of (mark t r) (λ x. target t r x)

-- the buckets are numbered from 1; the highest ten bits of the key are the bucket
abbrev pub bucket_of : ℕ → ℕ
bucket_of key = suc (key / 64)

-- the free rows are in bucket 0
abbrev pub bucket : Table → ℕ → ℕ
bucket t r = cond (eqb (mark t r) 0) 0 (bucket_of (row_key t r))

abbrev pub buckets : ℕ
buckets = 1025
