-- What a line asks for. Assumes nothing.
use Rattle.std.specs.Prelude.{Option, Some, None, ℕ, ◌+◌, ◌*◌, ◌-◌, Bool, not, cond, ◌&&◌, List, eqb, leb, length, get_or, drop}
use Rattle.letters.specs.Each.{some}
use Rattle.letters.specs.Letters.{within}
use Rattle.model.specs.Call.{Call}
use Rattle.model.specs.Call.Call.{ask, add, remove, count}
use Rattle.printing.specs.Printed.{space}
use Rattle.lines.specs.declared.requests.Kind.{Kind}
use Rattle.lines.specs.declared.requests.Kind.TheVariants.{Add, Remove, Ask, Count}

-- how many bytes of a line stand before its name: the kind, a space and two digits, and one space more before a name
abbrev pub head_length : ℕ
head_length = 4

abbrev pub name_start : ℕ
name_start = 5

-- the byte at a place of the line
abbrev pub byte : List ℕ → ℕ → ℕ
byte line i = get_or line i 0

-- 0x30 is `0`, 0x39 is `9`
abbrev pub is_digit : ℕ → Bool
is_digit b = within 0x30 0x39 b

-- behind its first byte: "a space, two decimal digits for the mission"
abbrev pub is_headed : List ℕ → Bool
is_headed line = leb head_length (length line) && (eqb (byte line 1) space && (is_digit (byte line 2) && is_digit (byte line 3)))

-- the number that the two digits say
abbrev pub mission_of : List ℕ → ℕ
mission_of line = (byte line 2 - 0x30) * 10 + (byte line 3 - 0x30)

-- "the name, which is the rest of the line"
abbrev pub name_of : List ℕ → List ℕ
name_of line = drop name_start line

-- "a space and then the name, which is the rest of the line, has no space in it and may be of no bytes"
abbrev pub has_name : List ℕ → Bool
has_name line = leb name_start (length line) && (eqb (byte line head_length) space && not (some (λ b. eqb b space) (name_of line)))

-- what a line asks for: a call and its mission, or none
abbrev pub Request : Type 0
Request = Option (Kind × ℕ)

-- a request, if the line is of its form
abbrev pub request_if : Bool → Kind → List ℕ → Request
request_if fine kind line = cond fine (Some (kind, mission_of line)) None

-- "A line is `+`, `-`, `?` or `L`, a space, two decimal digits for the mission and, but for `L`, a space and then the name". "They mean add,
-- remove, ask and count." 0x2B is `+`, 0x2D is `-`, 0x3F is `?`, 0x4C is `L`.
unfoldable pub request_of : List ℕ → Request
request_of line =
    cond (is_headed line)
    (cond (eqb (byte line 0) 0x2B) (request_if (has_name line) Add line)
    (cond (eqb (byte line 0) 0x2D) (request_if (has_name line) Remove line)
    (cond (eqb (byte line 0) 0x3F) (request_if (has_name line) Ask line)
    (cond (eqb (byte line 0) 0x4C) (request_if (eqb (length line) head_length) Count line)
    None))))
    None

-- the call that is asked for
abbrev pub call_of : Kind → ℕ → List ℕ → Call
call_of Add m name = add m name
call_of Remove m name = remove m name
call_of Ask m name = ask m name
call_of Count m name = count m
