-- `targets_of` meets its promise: the list of the 37 targets of a row has each of them in its place, and without a row each is 0. Assumes nothing.
use Prim.Native.Nat.{ℕ, ◌<◌}
use mathlib.Core.Path.{◌≡◌, refl, sym, ◌∙◌}
use mathlib.Core.List.{List}
use native.Mathlib.Omega.{arith}
use lib.ListN.{length, get_or, replicate, get_or-replicate, length-take, length-drop}
use lib.Seq.{ext_get_or}
use Rattle.letters.specs.Letters.{letters}
use Rattle.sets.proofs.Below.{length-each, each_at}
use Rattle.rows.specs.Table.{Table}
use Rattle.rows.proofs.Facts.{row_inside}
use Rattle.rows.proofs.Skipping.{row_target}
use Rattle.growing.specs.Copies.{target_of, targets_of}
use Rattle.growing.proofs.copies.targets_of.Goals as goal

all-copied : (t : Table) (n : ℕ) (copy : List ℕ) → length copy ≡ letters → ((x : ℕ) → x < letters → get_or copy x 0 ≡ target_of t n x)
    → copy ≡ targets_of t n
all-copied t n copy long same =
    ext_get_or 0 copy (targets_of t n) (long ∙ sym (length-each _ letters))
    (λ x h. same x (omega arith) ∙ sym (each_at (λ x. target_of t n x) letters x 0 (omega arith)))

pub copy_from_slice-requires : goal.copy_from_slice-requires
copy_from_slice-requires c =
    let args = c.args in
    let inside = (row_inside args.t.now args.n (sym c.is_row.ensures ∙ c.if-not-is_row.false)).1 in
    rw c.targets.ensures (simp (length-take, length-drop) (omega arith))

pub returns : goal.returns
returns c =
    let args = c.args in
    let row = sym c.is_row.ensures ∙ c.if-not-is_row.false in
    let copied = c.copy_from_slice.ensures.after ∙ c.targets.ensures in
    all-copied args.t.now args.n _ c.copy_from_slice.ensures.len (λ x h. rw (copied, row) (row_target args.t.now args.n x h))

pub returns-then-not-is_row : goal.returns-then-not-is_row
returns-then-not-is_row c =
    let none = sym c.is_row.ensures ∙ c.if-not-is_row.true in
    let args = c.args in
    all-copied args.t.now args.n (replicate letters 0) refl (λ x h. rw (none, get_or-replicate {A = ℕ} letters x 0 0 h))
