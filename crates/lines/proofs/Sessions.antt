-- Step after step, on any table of the desk's length, what is written is what sixteen plain sets print. By induction over the steps: at every
-- place it is known what is left to print, each step writes the front of it, and the next place has the rest. A line's call keeps a sound book,
-- and on a sound book it is the model's; and all names that follow are written, since no list has more bytes than were read. Assumes nothing.
use Prim.Native.Nat.{ℕ, ◌+◌, ◌≤◌, ◌<◌}
use native.Mathlib.Numerals.{add-one}
use native.Mathlib.Omega.{arith}
use native.Mathlib.Decide.{dec_lt}
use mathlib.Core.Path.{◌≡◌, refl, sym, ◌∙◌, ap, ap₂, subst}
use mathlib.Core.Bool.{false}
use mathlib.Core.List.{List, [], ◌∷◌, ◌++◌, append_assoc, append-nil}
use borrow.Author.Tests.{le-leb, lt-leb, ne_eqb, not-false}
use lib.ListN.{length, take, length-take, length-replicate, drop_of_length-le}
use lib.Seq.{take_all}
use Rattle.letters.specs.Lists.{name_end, lines_of}
use Rattle.letters.proofs.Lines.{name_end-le, lines_at}
use Rattle.model.specs.Lists.{missions}
use Rattle.rows.specs.Table.{Table, room}
use Rattle.rows.specs.Words.{lists}
use Rattle.rows.proofs.Zeros.{zeros-sound, zeros-lists}
use Rattle.promises.specs.Books.{book_of}
use Rattle.promises.proofs.AnyCalls.{sound-book}
use Rattle.lines.specs.declared.steps.Place.{Place}
use Rattle.lines.specs.declared.steps.Stage.TheVariants.{Over, Long, First, Line}
use Rattle.lines.specs.Requests.{request_of}
use Rattle.lines.specs.Steps.{desk_numbers, most_input, too_long, most_output, beginning, over_after, line_at, ready, stage_text, Does, Steps}
use Rattle.lines.specs.Sessions.{prints, input_size, Taken, StepsFrom, output}
use Rattle.lines.proofs.Following.{Held, held_none, held_after, all-written}
use Rattle.lines.proofs.Kept.{line_kept}
use Rattle.lines.proofs.Places.{Stands, stands-apart, stands-ready, left, left-first, left-lines}
use Rattle.lines.proofs.Stages.{Ready, Lines, by-stage, desk-length, step_text, step-written}

module _ (t after : Table) (input : List ℕ) (place : Place) (before filled : List ℕ) (next : Place) (stands : Stands t input place)
    (takes : most_output ≤ length before) where
  -- the step prints the front of what is left
  record Goes (text : List ℕ) : Type 0 where
    then : Stands after input next
    front : left t input place ≡ text ++ left after input next

  goes_over : (text : List ℕ) (k : ℕ) → left t input place ≡ text → next ≡ over_after k → after ≡ t → Goes text
  goes_over text k all e same =
      record {
        then = rw (e, same) (stands-apart t input (over_after k) stands.long refl);
        front = rw e (all ∙ sym (append-nil text));
      }

  idle : ready t place (length before) ≡ false → Does Over t after input place before filled next → Goes []
  idle e p =
      let over = not-false place.over (sym (stands-ready t input place (length before) stands takes) ∙ e) in
      goes_over [] 0 (rw over) p.next p.table

  long : Ready t place (length before) → most_input < length input → Does Long t after input place before filled next → Goes too_long
  unfolding prints
  long r h p =
      let none : place.line ≡ 0 = elim (dec_lt 0 place.line) [ yes some ↦ absurd (omega (arith, stands.short some)) | no some ↦ omega arith ] in
      goes_over too_long (length too_long) (left-first t input place r.going none ∙ rw (lt-leb (length input) most_input h)) p.next p.table

  first : Ready t place (length before) → length input ≤ most_input → place.line ≡ 0 → Does First t after input place before filled next → Goes []
  unfolding prints
  first r h none p =
      let zeros : length after ≡ length t = ap length p.table ∙ length-replicate {A = ℕ} (length t) 0 in
      let empty = ap lists p.table ∙ zeros-lists (length t) in
      record {
        then =
            rw p.next
            (record {
              long = zeros ∙ stands.long;
              fine = λ some. rw p.table (zeros-sound t (desk-length t stands.long));
              short = λ some. h;
              numbered = omega arith;
              bounded = omega arith;
              held = λ some. rw empty (held_none missions 0);
            });
        front = rw p.next (left-first t input place r.going none ∙ rw (le-leb (length input) most_input h, empty, zeros, stands.long));
      }

  end : Lines t input place (length before) → length input ≤ place.at → Does Over t after input place before filled next → Goes []
  unfolding lines_of
  end l h p = goes_over [] 0 (left-lines t input place l.ready.going l.numbered ∙ rw (drop_of_length-le input h)) p.next p.table

  line : Lines t input place (length before) → place.at < length input → Does Line t after input place before filled next
      → Goes (stage_text t input place (length before) Line)
  line l h p =
      let text : List ℕ = line_at input place in
      let fine = stands.fine l.numbered in
      let held = stands.held l.numbered in
      let k = line_kept t after text place.line (request_of text) fine p.table in
      let inside = name_end-le input place.at (omega arith) in
      let same-room : room after ≡ room t = rw k.long in
      let on : name_end input place.at + 1 ≡ place.at + (length text + 1) = omega arith in
      record {
        then =
            rw p.next
            (record {
              long = k.long ∙ stands.long;
              fine = λ some. k.fine;
              short = λ some. l.short;
              numbered = omega (arith, stands.numbered);
              bounded = omega (arith, stands.numbered, l.short);
              held = λ some. subst (λ (n : ℕ). Held n (lists after)) (sym on) (rw k.names (held_after (book_of t) text place.at held (request_of text)));
            });
        front =
            rw p.next
            (left-lines t input place l.ready.going l.numbered
            ∙ rw (
              lines_at input place.at h,
              ne_eqb (place.line + 1) 0 (λ e. omega arith),
              all-written t fine text place.line place.at (length before) held (omega (arith, l.short)) takes,
              k.told,
              same-room,
              k.names,
              sound-book t fine,
              add-one place.line,
              append_assoc,
            ));
      }

  goes : Steps t after input place before filled next → Goes (step_text t input place (length before))
  goes =
      by-stage t input place (length before)
      (λ s. Does s t after input place before filled next → Goes (stage_text t input place (length before) s))
      idle long first end line

steps-print : (steps : List Taken) (input : List ℕ) (t : Table) (place : Place) → Stands t input place → StepsFrom input t place steps
    → output steps ≡ left t input place
steps-print [] input t place stands over = rw over
steps-print (s ∷ more) input t place stands (p, takes, rest) =
    let g = goes t s.table input place s.before s.filled s.place stands takes p in
    ap₂ ◌++◌ (step-written p) (steps-print more input s.table s.place g.then rest) ∙ sym g.front

-- From the beginning, on any table of the desk's length, the steps write what 01 says that the desk program prints.
pub desk-prints : (input : List ℕ) (t : Table) (steps : List Taken) → length t ≡ desk_numbers → StepsFrom input t beginning steps
    → output steps ≡ prints input
desk-prints input t steps long p = steps-print steps input t beginning (stands-apart t input beginning long refl) p

-- What the program reads of the input suffices.
pub prints-front : (input : List ℕ) → prints (take input_size input) ≡ prints input
unfolding prints
prints-front input =
    elim (dec_lt input_size (length input)) [
      | yes h ↦
          let front : length (take input_size input) ≡ input_size = simp length-take (omega arith) in
          rw (lt-leb (length (take input_size input)) most_input (omega arith), lt-leb (length input) most_input (omega arith))
      | no h ↦ ap prints (take_all input_size input (omega arith))
    ]
