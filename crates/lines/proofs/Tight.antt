-- Any two outcomes of `step` that satisfy its promise lead to the same place and leave the same buffer; their tables are the same number for number,
-- but for a call that a line asks for, where they are the same as two outcomes of the call are. Assumes nothing.
use Rattle.std.specs.Prelude.{Some, None}
use Prim.Native.Nat.{ℕ}
use mathlib.Core.Path.{◌≡◌, sym, ◌∙◌}
use mathlib.Core.List.{List, []}
use lib.ListN.{length}
use Rattle.rows.specs.Table.{Table}
use Rattle.promises.specs.Promises.{reply_to}
use Rattle.promises.proofs.Tight.{promised-tight}
use Rattle.lines.specs.declared.steps.Place.{Place}
use Rattle.lines.specs.declared.steps.Stage.{Stage}
use Rattle.lines.specs.declared.steps.Stage.TheVariants.{Over, Long, First, Line}
use Rattle.lines.specs.Requests.{Request, name_of, request_of, call_of}
use Rattle.lines.specs.Promises.{RequestLeaves}
use Rattle.lines.specs.Steps.{line_at, stage_of, StageLeaves, Steps, RequestTight, StageTight}

request-tight : (t u v : Table) (line : List ℕ) (asked : Request) → RequestLeaves t u line asked → RequestLeaves t v line asked
    → RequestTight t u v line asked
request-tight t u v line (Some (kind, m)) p q =
    let call = call_of kind m (name_of line) in
    promised-tight t u v [] [] [] call (reply_to t call) (reply_to t call) p q
request-tight t u v line None p q = p ∙ sym q

stage-tight : (t u v : Table) (input : List ℕ) (place : Place) (stage : Stage)
    → StageLeaves t u input place stage → StageLeaves t v input place stage → StageTight t u v input place stage
stage-tight t u v input place Over p q = p ∙ sym q
stage-tight t u v input place Long p q = p ∙ sym q
stage-tight t u v input place First p q = p ∙ sym q
stage-tight t u v input place Line p q = request-tight t u v (line_at input place) (request_of (line_at input place)) p q

-- Two outcomes of step.
pub step-tight : (t u v : Table) (input : List ℕ) (place : Place) (before x y : List ℕ) (p q : Place)
    → Steps t u input place before x p → Steps t v input place before y q
    → (p ≡ q) × (x ≡ y) × StageTight t u v input place (stage_of t input place (length before))
step-tight t u v input place before x y p q a b =
    (a.next ∙ sym b.next, a.buffer ∙ sym b.buffer, stage-tight t u v input place (stage_of t input place (length before)) a.table b.table)
