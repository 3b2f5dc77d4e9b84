-- Bytes that are written to the front of a buffer. What has been written is said by two facts: the first bytes are these, and the others
-- are those of before. A buffer that is lent from some byte on comes back with more written behind those. What is written one after another,
-- byte by byte or part by part, is written as one. Assumes nothing.
use Prim.Native.Nat.{ℕ, suc, ◌+◌, ◌-◌, ◌≤◌, ◌<◌}
use native.Mathlib.Numerals.{add-one}
use native.Mathlib.Omega.{arith}
use mathlib.Core.Path.{◌≡◌, refl, sym, ◌∙◌}
use mathlib.Core.List.{List, [], ◌∷◌, ◌++◌, append_assoc, append-nil}
use lib.ListN.{length, take, drop, set, length-append, length-drop, length-set, length-take, take-append-drop, drop_of_length-le}
use lib.Seq.{take_all, take_at, drop-append-add, drop-cons, drop-drop, drop-set-lt, set_at, take-suc-set}
use Rattle.model.specs.Call.{overlaid}

-- a buffer of which the first i bytes may have been written, and no others
pub record Front (i : ℕ) (before after : List ℕ) : Type 0 where
  pub long : length after ≡ length before
  pub rest : drop i after ≡ drop i before

pub front-none : (l : List ℕ) → Front 0 l l
front-none l = record { long = refl; rest = refl }

rest-later : (i k : ℕ) (l m : List ℕ) → drop i l ≡ drop i m → drop (i + k) l ≡ drop (i + k) m
rest-later i k l m e = rw (← drop-drop k i l, ← drop-drop k i m, e)

-- one more byte is written
pub front-more : {i : ℕ} {before after : List ℕ} (b : ℕ) → Front i before after → Front (i + 1) before (set after i b)
front-more {i} {before} {after} b f =
    record {
      long = rw length-set f.long;
      rest = drop-set-lt (i + 1) after i b (omega arith) ∙ rest-later i 1 after before f.rest;
    }

pub take_more : (i : ℕ) (l : List ℕ) (b : ℕ) → i < length l → take (i + 1) (set l i b) ≡ take i l ++ b ∷ []
take_more i l b h = rw add-one (take-suc-set l i b h)

-- what was written overlays the buffer
pub front-overlaid : {i : ℕ} {before after w : List ℕ} → Front i before after → take i after ≡ w → length w ≡ i → after ≡ overlaid w before
front-overlaid {i} {before} {after} {w} f e long = sym (take-append-drop i after) ∙ rw (e, f.rest, long)

pub overlaid-long : (w buffer : List ℕ) → length w ≤ length (overlaid w buffer)
overlaid-long w buffer = simp length-append (omega arith)

pub overlaid-take : (i : ℕ) (w buffer : List ℕ) → length w ≡ i → take i (overlaid w buffer) ≡ w
overlaid-take i w buffer long = take_at w (drop (length w) buffer) i long

-- the buffer from byte a on is lent, and comes back with something written to its front
abbrev pub lent : ℕ → List ℕ → List ℕ
lent a buffer = take (length buffer - a) (drop a buffer)

abbrev pub back : ℕ → List ℕ → List ℕ → List ℕ
back a buffer part = take a buffer ++ (part ++ drop (length buffer - a) (drop a buffer))

pub length-lent : (a : ℕ) (buffer : List ℕ) → length (lent a buffer) ≡ length buffer - a
length-lent a buffer = simp (length-take, length-drop) (omega arith)

pub lent_back : (a : ℕ) (w buffer : List ℕ) → back a buffer (overlaid w (lent a buffer)) ≡ (take a buffer ++ w) ++ drop (a + length w) buffer
lent_back a w buffer =
    let all = length-drop a buffer in
    rw (
      take_all (length buffer - a) (drop a buffer) (omega arith),
      drop_of_length-le (drop a buffer) {i = length buffer - a} (omega arith),
      append-nil,
      drop-drop,
      append_assoc,
    )

-- w, of i bytes, was written to the front of the buffer and nothing behind it; then one more byte, or a part that was lent for it
pub record Wrote (i : ℕ) (w before after : List ℕ) : Type 0 where
  pub long : i ≡ length w
  pub buffer : after ≡ overlaid w before

pub overlaid-wrote : (w before : List ℕ) {i : ℕ} {after : List ℕ} → (i ≡ length w) × (after ≡ overlaid w before) → Wrote i w before after
overlaid-wrote w before (l, b) = record { long = l; buffer = b }

pub wrote_none : (buffer : List ℕ) → Wrote 0 [] buffer buffer
wrote_none buffer = record { long = refl; buffer = refl }

pub wrote-byte : {i : ℕ} {w before after : List ℕ} (b : ℕ) → Wrote i w before after → i < length before
    → Wrote (i + 1) (w ++ b ∷ []) before (set after i b)
wrote-byte {i} {w} {before} {after} b p inside =
    let long : length w ≡ i = sym p.long in
    let whole : length (w ++ b ∷ []) ≡ suc i = rw (length-append, long, add-one) in
    record {
      long = rw (whole, add-one);
      buffer = rw (p.buffer, long, drop-cons before i 0 inside, set_at w _ _ b i long, whole, append_assoc);
    }

pub wrote-part : {a k : ℕ} {w x before after part : List ℕ} → Wrote a w before after → Wrote k x (lent a after) part
    → Wrote (a + k) (w ++ x) before (back a after part)
wrote-part {a} {k} {w} {x} {before} {after} {part} p q =
    let long : length w ≡ a = sym p.long in
    record {
      long = rw (length-append, p.long, q.long);
      buffer = rw (q.buffer, lent_back a x after, p.buffer, overlaid-take a w before long, ← long, drop-append-add w, drop-drop, length-append);
    }
