-- `name_of` meets its promise: the part behind the bytes before the name is what dropping them leaves, and of fewer bytes that leaves
-- nothing. Assumes nothing.
use Prim.Native.Nat.{ℕ, ◌-◌, ◌<◌}
use mathlib.Core.Path.{◌≡◌, sym}
use mathlib.Core.List.{List, []}
use native.Mathlib.Omega.{arith}
use lib.ListN.{length, take, drop, length-drop, drop_of_length-le}
use lib.Seq.{take_all}
use Rattle.lines.specs.Requests.{name_start, name_of}
use Rattle.lines.proofs.requests.name_of.Goals as goal

short-nameless : (line : List ℕ) → length line < name_start → name_of line ≡ []
short-nameless line h = drop_of_length-le line {i = name_start} (omega arith)

name-is-rest : (line : List ℕ) → take (length line - name_start) (drop name_start line) ≡ name_of line
name-is-rest line = take_all (length line - name_start) (drop name_start line) (simp length-drop (omega arith))

pub returns-then-line-lt-NAME : goal.returns-then-line-lt-NAME
returns-then-line-lt-NAME c = sym (short-nameless c.args.line.now c.if-line-lt-NAME.true)

pub returns : goal.returns
returns c = name-is-rest c.args.line.now
