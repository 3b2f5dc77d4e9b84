-- What one read put behind what was read before is what the reader lost. Assumes nothing.
use Rattle.std.proofs.Common.{rules, ℕ, ◌≡◌, ◌+◌, ◌≤◌, List, ◌++◌, length, take, sym, ap, ◌∙◌, subst, length-take-le}
use Rattle.std.proofs.lemmas.List.{take-append-le}
use Rattle.std.proofs.Math.Seq.{take-append-add}
use Rattle.std.specs.Io.KnownBytes.{Consumes}
use Rattle.std.proofs.KnownBytes.{Consumes-trans}
use borrow.Rule.Slice.PartMut.{put_mid, post_of}
use Rattle.desk.proofs.read_full.Goals as goal

-- a buffer that is lent from its a-th byte on, and comes back
read_behind : (a k n : ℕ) (buffer lent : List ℕ) → a ≤ length buffer → n ≤ length lent → take a buffer ++ take n lent ≡ take (a + n) (put_mid a k buffer lent)
read_behind a k n buffer lent inside fits =
    let after = post_of a k buffer in
    sym (
    ap (λ m. take (m + n) (put_mid a k buffer lent)) (sym (length-take-le a buffer inside))
    ∙ take-append-add (take a buffer) (lent ++ after) n
    ∙ ap (λ l. take a buffer ++ l) (take-append-le n lent after fits)
    )

pub loop-long-preserved : goal.loop-long-preserved
loop-long-preserved g c =
    let read = c.in_ok-more.ensures in
    let joined = read_behind c.loop-long.long _ c.in_ok-more.more c.loop-long.buffer c.read.new.buf c.loop-long.invariant.0 read.bound.0 in
    (search rules, subst (Consumes _ _) joined (Consumes-trans _ _ _ _ _ c.loop-long.invariant.1 read.bytes.0))
