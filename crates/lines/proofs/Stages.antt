-- What is known at each stage of a step, by the tests that led to it, and what is done there. Assumes nothing.
use Prim.Native.Nat.{ℕ, ◌+◌, ◌≤◌, ◌<◌}
use native.Mathlib.Omega.{arith}
use mathlib.Core.Path.{◌≡◌, refl, sym, ◌∙◌, ap, subst}
use mathlib.Core.Bool.{true, false, ◌&&◌, and-eq-true_iff}
use mathlib.Core.List.{List}
use borrow.Author.Tests.{eqb-true, eqb-false, leb-true, leb-false, not-true}
use lib.Dec.{eqb, leb}
use lib.ListN.{length, take}
use Rattle.rows.specs.Table.{Table, length_ok}
use Rattle.printing.proofs.Buffers.{overlaid-long, overlaid-take}
use Rattle.lines.specs.declared.steps.Place.{Place}
use Rattle.lines.specs.declared.steps.Stage.{Stage}
use Rattle.lines.specs.declared.steps.Stage.TheVariants.{Over, Long, First, Line}
use Rattle.lines.specs.Steps.{desk_numbers, most_input, most_output, is_place, ready, stage_of, stage_text, stage_next, Steps}
use Rattle.lines.proofs.Choices.{by-choice}

-- a step can be taken
pub record Ready (t : Table) (place : Place) (size : ℕ) : Type 0 where
  pub long : length t ≡ desk_numbers
  pub buffer : most_output ≤ size
  pub line : place.line ≤ most_input + 1
  pub going : place.over ≡ false

ready-is : (t : Table) (place : Place) (size : ℕ) → ready t place size ≡ true → Ready t place size
ready-is t place size e =
    let (lent, stands) = (and-eq-true_iff (eqb (length t) desk_numbers && leb most_output size) _).0 e in
    let (long, buffer) = (and-eq-true_iff (eqb (length t) desk_numbers) _).0 lent in
    let (bounds, going) = (and-eq-true_iff (is_place place) _).0 stands in
    record {
      long = eqb-true _ _ long;
      buffer = leb-true _ _ buffer;
      line = leb-true _ _ bounds;
      going = not-true _ going;
    }

-- there are lines: the input is not too long, and the table was emptied
pub record Lines (t : Table) (input : List ℕ) (place : Place) (size : ℕ) : Type 0 where
  pub ready : Ready t place size
  pub short : length input ≤ most_input
  pub numbered : 0 < place.line

module _ (t : Table) (input : List ℕ) (place : Place) (size : ℕ) where
  pub by-stage : (P : Stage → Type 0)
      → (ready t place size ≡ false → P Over)
      → (Ready t place size → most_input < length input → P Long)
      → (Ready t place size → length input ≤ most_input → place.line ≡ 0 → P First)
      → (Lines t input place size → length input ≤ place.at → P Over)
      → (Lines t input place size → place.at < length input → P Line)
      → P (stage_of t input place size)
  unfolding stage_of
  by-stage P idle long first end line =
      by-choice P (ready t place size)
      (λ r.
      let fine = ready-is t place size r in
      by-choice P (leb (length input) most_input)
      (λ s.
      let short = leb-true (length input) most_input s in
      by-choice P (eqb place.line 0)
      (λ e. first fine short (eqb-true place.line 0 e))
      (λ e.
      let more : Lines t input place size = record { ready = fine; short = short; numbered = omega (arith, eqb-false place.line 0 e) } in
      by-choice P (leb (length input) place.at)
      (λ e. end more (leb-true (length input) place.at e))
      (λ e. line more (leb-false (length input) place.at e))))
      (λ s. long fine (leb-false (length input) most_input s)))
      idle

  abbrev pub Given : Stage → Type 0
  Given Over = Unit {0}
  Given Long = Ready t place size × (most_input < length input)
  Given First = Ready t place size × (length input ≤ most_input) × (place.line ≡ 0)
  Given Line = Lines t input place size × (place.at < length input)

  pub given : {stage : Stage} → stage_of t input place size ≡ stage → Given stage
  given e =
      subst Given e
      (by-stage Given
      (λ r. tt)
      (λ r l. (r, l))
      (λ r s e. (r, s, e))
      (λ l h. tt)
      (λ l h. (l, h)))

-- the desk's table has a book's length
pub desk-length : (t : Table) → length t ≡ desk_numbers → length_ok t ≡ true
unfolding length_ok
desk-length t e = rw e

-- so many bytes are to be written as the text has, and they stand at the buffer's front
stage-bytes : (t : Table) (input : List ℕ) (place : Place) (size : ℕ) (stage : Stage)
    → (stage_next t input place size stage).bytes ≡ length (stage_text t input place size stage)
stage-bytes t input place size Over = refl
stage-bytes t input place size Long = refl
stage-bytes t input place size First = refl
stage-bytes t input place size Line = refl

abbrev pub step_text : Table → List ℕ → Place → ℕ → List ℕ
step_text t input place size = stage_text t input place size (stage_of t input place size)

module _ {t after : Table} {input : List ℕ} {place : Place} {before filled : List ℕ} {next : Place}
    (p : Steps t after input place before filled next) where
  step-bytes : next.bytes ≡ length (step_text t input place (length before))
  step-bytes = ap (λ (q : Place). q.bytes) p.next ∙ stage-bytes t input place (length before) (stage_of t input place (length before))

  pub step-written : take next.bytes filled ≡ step_text t input place (length before)
  step-written = rw p.buffer (overlaid-take next.bytes (step_text t input place (length before)) before (sym step-bytes))

  pub step-inside : next.bytes ≤ length filled
  step-inside = rw (step-bytes, p.buffer) (overlaid-long (step_text t input place (length before)) before)
