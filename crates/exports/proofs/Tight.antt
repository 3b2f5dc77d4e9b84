-- Any two outcomes at the C boundary that satisfy a promise return the same number, and are the same as two outcomes of the call are: what a host
-- takes apart tells what was returned. Assumes nothing.
use Prim.Native.Nat.{ℕ, ◌<◌}
use native.Mathlib.Omega.{arith}
use mathlib.Core.Path.{◌≡◌, ap, ap₂}
use mathlib.Core.List.{List}
use Rattle.model.specs.Call.{Call}
use Rattle.rows.specs.Table.{Table}
use Rattle.answers.specs.declared.replies.Reply.{Reply}
use Rattle.promises.specs.Promises.{Promised, Tight}
use Rattle.promises.proofs.Tight.{promised-tight}
use Rattle.exports.specs.Packed.{radix, packed, unpacked_with, unpacked_next}

-- what was packed is taken apart again
pub packed-apart : (second number value : ℕ) → value < radix
    → unpacked_with second (packed number value) ≡ record { number = number; value = value; second = second }
unfolding unpacked_with
packed-apart second number value small =
    ap₂ (λ (n : ℕ) (v : ℕ). record { number = n; value = v; second = second }) (omega arith) (omega arith)

pub packed-apart-next : (letters number count : ℕ) → count < radix
    → unpacked_next letters (packed number count) ≡ record { number = number; value = letters; second = count }
unfolding unpacked_next
packed-apart-next letters number count small =
    ap₂ (λ (n : ℕ) (c : ℕ). record { number = n; value = letters; second = c }) (omega arith) (omega arith)

-- a way to take a reply from what is put and what is returned, where nothing else gives this reply
abbrev TellsApart : (ℕ → ℕ → Reply) → Type 0
TellsApart reply = (k l r s : ℕ) → reply k r ≡ reply l s → (r ≡ s) × (k ≡ l)

with-apart : TellsApart unpacked_with
unfolding unpacked_with
with-apart k l r s e =
    (omega (arith, ap (λ (z : Reply). z.number) e, ap (λ (z : Reply). z.value) e), ap (λ (z : Reply). z.second) e)

next-apart : TellsApart unpacked_next
unfolding unpacked_next
next-apart k l r s e =
    (omega (arith, ap (λ (z : Reply). z.number) e, ap (λ (z : Reply). z.second) e), ap (λ (z : Reply). z.value) e)

apart-tight : (reply : ℕ → ℕ → Reply) → TellsApart reply → (t u v : Table) (before x y : List ℕ) (call : Call) (k l r s : ℕ)
    → Promised t u before x call (reply k r) → Promised t v before y call (reply l s)
    → (r ≡ s) × (k ≡ l) × Tight t u v before x y call (reply k r) (reply l s)
apart-tight reply apart t u v before x y call k l r s p q =
    let tight = promised-tight t u v before x y call (reply k r) (reply l s) p q in
    let (returned, put) = apart k l r s tight.same.replies in
    (returned, put, tight)

-- Two outcomes of a function of include/book.h other than next: what is returned, and the second value, which is put by ask alone.
pub packs-tight : (t u v : Table) (before x y : List ℕ) (call : Call) (k l r s : ℕ) → Promised t u before x call (unpacked_with k r)
    → Promised t v before y call (unpacked_with l s) → (r ≡ s) × (k ≡ l) × Tight t u v before x y call (unpacked_with k r) (unpacked_with l s)
packs-tight = apart-tight unpacked_with with-apart

-- Two outcomes of next: what is returned, and the letters.
pub packs-next-tight : (t u v : Table) (before x y : List ℕ) (call : Call) (k l r s : ℕ) → Promised t u before x call (unpacked_next k r)
    → Promised t v before y call (unpacked_next l s) → (r ≡ s) × (k ≡ l) × Tight t u v before x y call (unpacked_next k r) (unpacked_next l s)
packs-next-tight = apart-tight unpacked_next next-apart
