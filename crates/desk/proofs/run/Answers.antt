-- `run` meets its promise: what a step printed is inside the buffer, and each step leaves fewer; what all steps printed is what 01 says of the
-- bytes that were read, and these suffice. Assumes nothing.
use Rattle.std.proofs.Common.{rules, ℕ, ◌≡◌, ◌≤◌, ◌<◌, List, [], ◌∷◌, ◌++◌, Option, None, Some, IfSome, true, length, take, sym, ap, ◌∙◌, subst, arith, append_assoc, append-nil, length-take-le}
use Rattle.std.proofs.lemmas.Bool.{not-true, not-false}
use Rattle.std.proofs.Math.Seq.{take-append_seam}
use native.Mathlib.Decide.{dec_lt}
use Rattle.std.specs.Io.KnownBytes.{Appends, Consumes, IsAtEnd}
use Rattle.std.proofs.KnownBytes.{Appends-nil, Appends-trans}
use Rattle.rows.specs.Table.{Table}
use Rattle.lines.specs.declared.steps.Place.{Place}
use Rattle.lines.specs.Steps.{desk_numbers, beginning}
use Rattle.lines.specs.Sessions.{prints, input_size, Taken, StepsFrom, output}
use Rattle.lines.proofs.Sessions.{desk-prints, prints-front}
use Rattle.lines.proofs.Stages.{step-inside}
use Rattle.lines.proofs.Ends.{step_less}
use Rattle.desk.proofs.run.Invariants.{Going}
use Rattle.desk.proofs.run.Goals as goal

-- one step more writes behind what was written
output_more : (steps : List Taken) (s : Taken) → output steps ++ take s.place.bytes s.filled ≡ output (steps ++ s ∷ [])
output_more [] s = sym (append-nil (take s.place.bytes s.filled))
output_more (r ∷ more) s =
    let first = take r.place.bytes r.filled in
    append_assoc first (output more) (take s.place.bytes s.filled) ∙ ap (λ l. first ++ l) (output_more more s)

-- what is read suffices: all that there is, or so many bytes of it
module _ (before now : Option (List ℕ)) where
  read_suffices : (known rest : Option (List ℕ)) (read : List ℕ) → Consumes known rest read → length read ≤ input_size
      → (length read < input_size → IsAtEnd rest) → Appends before now (prints read) → IfSome known (λ input. Appends before now (prints input))
  read_suffices None rest read p fits end h = tt
  read_suffices (Some input) None read p fits end h = absurd p
  read_suffices (Some input) (Some rest) read p fits end h =
      elim (dec_lt (length read) input_size) [
        | yes less ↦
            let all : read ≡ input = sym (p ∙ ap (λ l. read ++ l) (end less) ∙ append-nil read) in
            subst (λ l. Appends before now (prints l)) all h
        | no full ↦
            let size : length read ≡ input_size = omega arith in
            let front : take input_size input ≡ read =
            ap (take input_size) p ∙ ap (λ n. take n (read ++ rest)) (sym size) ∙ take-append_seam read rest in
            subst (Appends before now) (ap prints (sym front) ∙ prints-front input) h
      ]

-- once it is over, all is written
all_printed : {input : List ℕ} {first t : Table} {start place : Place} {before now : Option (List ℕ)} → Going input first t start place before now
    → start ≡ beginning → place.over ≡ true → length first ≡ desk_numbers → Appends before now (prints input)
all_printed {input} {first} {t} {start} {place} {before} {now} done begun over long =
    let all : StepsFrom input first start done.steps = subst (StepsFrom input first start) (append-nil done.steps) (done.rest [] over) in
    let taken : StepsFrom input first beginning done.steps = subst (λ p. StepsFrom input first p done.steps) begun all in
    subst (Appends before now) (desk-prints input first done.steps long taken) done.written

pub slice_bounds-out-end : goal.slice_bounds-out-end
slice_bounds-out-end g c = step-inside c.step-place.ensures

pub slice_bounds-write_all-end : goal.slice_bounds-write_all-end
slice_bounds-write_all-end g c = sym (length-take-le _ _ (step-inside c.step-place.ensures))

pub loop-place-init : goal.loop-place-init
loop-place-init g c = record { steps = []; rest = λ more p. p; written = Appends-nil _ }

pub loop-place-smaller : goal.loop-place-smaller
loop-place-smaller g c = step_less c.step-place.ensures (not-true _ c.loop-place-test.true)

pub loop-place-preserved : goal.loop-place-preserved
loop-place-preserved g c =
    let done = c.loop-place.invariant in
    let s : Taken = record { before = c.loop-place.out; filled = c.step-place.new.out; table = c.step-place.new.t; place = c.step-place.result } in
    record {
      steps = done.steps ++ s ∷ [];
      rest = λ more p. rw append_assoc (done.rest (s ∷ more) (c.step-place.ensures, search rules, p));
      written = subst (Appends _ _) (output_more done.steps s) (Appends-trans _ _ _ _ _ done.written c.in_ok-write_all.ensures.bytes);
    }

pub returns : goal.returns
returns g c =
    read_suffices _ _ _ _ _ c.in_ok-long.ensures.front (search rules) (search rules)
    (all_printed c.loop-place.invariant c.beginning-place.ensures (not-false _ c.loop-place-test.false) (search rules))
