-- The desk program as steps. What a step prints, and where the program then stands, is told by the table, the input, the place and the size of the
-- buffer; which row of the table then holds which state is free, and nothing else. Assumes nothing.
use Rattle.std.specs.Prelude.{Some, None, ℕ, ◌+◌, ◌*◌, ◌≡◌, Bool, true, false, not, cond, ◌&&◌, List, [], eqb, leb, length, replicate}
use Rattle.letters.specs.Lists.{name_at, name_end}
use Rattle.model.specs.Call.{overlaid}
use Rattle.examples.specs.Text.{bytes}
use Rattle.rows.specs.Table.{Table, width, not_room}
use Rattle.promises.specs.Promises.{reply_to, Tight}
use Rattle.printing.specs.Printed.{spare}
use Rattle.lines.specs.declared.steps.Place.{Place}
use Rattle.lines.specs.declared.steps.Stage.{Stage}
use Rattle.lines.specs.declared.steps.Stage.TheVariants.{Over, Long, First, Line}
use Rattle.lines.specs.Requests.{Request, name_of, request_of, call_of}
use Rattle.lines.specs.Promises.{LineLeaves, printed_for}

-- "with a book of room 486": so many numbers has its table
abbrev pub desk_room : ℕ
desk_room = 486

abbrev pub desk_numbers : ℕ
desk_numbers = (desk_room + not_room) * width

-- "reads standard input, at most 8,192 bytes"
abbrev pub most_input : ℕ
most_input = 8192

-- "(more: it prints only `! long`)"
abbrev pub too_long : List ℕ
too_long = bytes "! long\n"

-- the longest line, and what its answer has beside it
abbrev pub most_output : ℕ
most_output = most_input + spare

-- where the program stands at first
abbrev pub beginning : Place
beginning = record { at = 0; line = 0; bytes = 0; over = false }

-- at the first line: "the line's number from 1"
abbrev pub first_line : Place
first_line = record { at = 0; line = 1; bytes = 0; over = false }

-- at the end, with so many bytes to be written
abbrev pub over_after : ℕ → Place
over_after bytes = record { at = 0; line = 0; bytes = bytes; over = true }

-- the line there
abbrev pub line_at : List ℕ → Place → List ℕ
line_at input place = name_at input place.at

-- no step from the beginning leads to a place with more lines than there can be
abbrev pub is_place : Place → Bool
is_place place = leb place.line (most_input + 1)

-- a step can be taken: the table is the desk's, the buffer takes every answer, and it is not over
abbrev pub ready : Table → Place → ℕ → Bool
ready t place size = (eqb (length t) desk_numbers && leb most_output size) && (is_place place && not place.over)

-- what there is to do
unfoldable pub stage_of : Table → List ℕ → Place → ℕ → Stage
stage_of t input place size =
    cond (ready t place size)
    (cond (leb (length input) most_input)
    (cond (eqb place.line 0) First
    (cond (leb (length input) place.at) Over Line))
    Long)
    Over

-- what is printed
abbrev pub stage_text : Table → List ℕ → Place → ℕ → Stage → List ℕ
stage_text t input place size Over = []
stage_text t input place size Long = too_long
stage_text t input place size First = []
stage_text t input place size Line = printed_for t (line_at input place) place.line size

-- where the program then stands: at the line behind the one that was answered. "A last line without an end is read as if it had one."
abbrev pub stage_next : Table → List ℕ → Place → ℕ → Stage → Place
stage_next t input place size Over = over_after 0
stage_next t input place size Long = over_after (length too_long)
stage_next t input place size First = first_line
stage_next t input place size Line =
    record {
      at = name_end input place.at + 1;
      line = place.line + 1;
      bytes = length (printed_for t (line_at input place) place.line size);
      over = false;
    }

-- what the table then is
abbrev pub StageLeaves : Table → Table → List ℕ → Place → Stage → Type 0
StageLeaves t after input place Over = after ≡ t
StageLeaves t after input place Long = after ≡ t
StageLeaves t after input place First = after ≡ replicate (length t) 0
StageLeaves t after input place Line = LineLeaves t after (line_at input place)

-- what there was to do was done
pub record Does (stage : Stage) (t after : Table) (input : List ℕ) (place : Place) (before filled : List ℕ) (then : Place) : Type 0 where
  pub next : then ≡ stage_next t input place (length before) stage
  pub buffer : filled ≡ overlaid (stage_text t input place (length before) stage) before
  pub table : StageLeaves t after input place stage

-- a step does what there is to do
abbrev pub Steps : Table → Table → List ℕ → Place → List ℕ → List ℕ → Place → Type 0
Steps t after input place before filled next = Does (stage_of t input place (length before)) t after input place before filled next

-- two outcomes of a step: a call's tables are the same as two outcomes of the call are, all others number for number
abbrev pub RequestTight : Table → Table → Table → List ℕ → Request → Type 0
RequestTight t u v line (Some (kind, m)) =
    let call = call_of kind m (name_of line) in
    Tight t u v [] [] [] call (reply_to t call) (reply_to t call)
RequestTight t u v line None = u ≡ v

abbrev pub StageTight : Table → Table → Table → List ℕ → Place → Stage → Type 0
StageTight t u v input place Over = u ≡ v
StageTight t u v input place Long = u ≡ v
StageTight t u v input place First = u ≡ v
StageTight t u v input place Line = RequestTight t u v (line_at input place) (request_of (line_at input place))
