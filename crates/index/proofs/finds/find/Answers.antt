-- `find` meets its promise: the search begins at the last row of the key's bucket. Assumes nothing.
use native.Mathlib.Omega.{arith}
use Rattle.rows.specs.Table.{row_count}
use Rattle.chains.specs.Chains.{Latest}
use Rattle.index.specs.Buckets.{bucket_of, bucket}
use Rattle.index.proofs.Seeking.{finds-all}
use Rattle.index.proofs.finds.find.Goals as goal

pub returns : goal.returns
returns c =
    let t = c.args.t.now in
    let last : Latest (λ q. bucket t q) (bucket_of c.args.wanted.key) (row_count t) c.last_of-n.result =
    rw (c.last_of-n.ensures, ← c.bucket_of.ensures)
    (c.requires.chained.lasts c.bucket_of.result (omega (arith, c.bucket_of.ensures))) in
    finds-all c.args.wanted.keyed last c.find_from.ensures
