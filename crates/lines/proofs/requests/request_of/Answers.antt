-- `request_of` meets its promise: a line that is not headed asks for nothing, and by the first byte of one that is the definition picks
-- what the arm calls for. Assumes nothing.
use mathlib.Core.Path.{◌≡◌, sym, ◌∙◌}
use mathlib.Core.Bool.{true}
use native.Mathlib.Omega.{arith}
use borrow.Author.Tests.{ne_eqb}
use Rattle.lines.specs.Requests.{is_headed, request_of}
use Rattle.lines.proofs.Headed.{headed-is}
use lib.ListN.{get_or}
use Rattle.lines.proofs.requests.request_of.Goals as goal
use Rattle.lines.proofs.requests.request_of.Goals.{Else-not-is_headed}

headed : (c : Else-not-is_headed) → is_headed c.args.line.now ≡ true
headed c = sym c.is_headed.ensures ∙ c.if-not-is_headed.false

pub returns-then-not-is_headed : goal.returns-then-not-is_headed
unfolding request_of
returns-then-not-is_headed c = rw (sym c.is_headed.ensures ∙ c.if-not-is_headed.true)

pub bounds-line-0 : goal.bounds-line-0
bounds-line-0 c = omega (arith, headed-is c.args.line.now (headed (goal.at.bounds-line-0 c).Else-not-is_headed))

pub request_if-requires : goal.request_if-requires
request_if-requires c = headed (goal.at.request_if-requires c).Else-not-is_headed

pub request_if-requires-in-45 : goal.request_if-requires-in-45
request_if-requires-in-45 c = headed (goal.at.request_if-requires-in-45 c).Else-not-is_headed

pub request_if-requires-in-63 : goal.request_if-requires-in-63
request_if-requires-in-63 c = headed (goal.at.request_if-requires-in-63 c).Else-not-is_headed

pub request_if-requires-in-76 : goal.request_if-requires-in-76
request_if-requires-in-76 c = headed (goal.at.request_if-requires-in-76 c).Else-not-is_headed

pub returns-in-43 : goal.returns-in-43
unfolding request_of
returns-in-43 c = rw (c.request_if.ensures, c.has_name.ensures, headed (goal.at.returns-in-43 c).Else-not-is_headed, c.in-43.is)

pub returns-in-45 : goal.returns-in-45
unfolding request_of
returns-in-45 c = rw (c.request_if-in-45.ensures, c.has_name-in-45.ensures, headed (goal.at.returns-in-45 c).Else-not-is_headed, c.in-45.is)

pub returns-in-63 : goal.returns-in-63
unfolding request_of
returns-in-63 c = rw (c.request_if-in-63.ensures, c.has_name-in-63.ensures, headed (goal.at.returns-in-63 c).Else-not-is_headed, c.in-63.is)

pub returns-in-76 : goal.returns-in-76
unfolding request_of
returns-in-76 c = rw (c.request_if-in-76.ensures, headed (goal.at.returns-in-76 c).Else-not-is_headed, c.in-76.is)

pub returns-in_default : goal.returns-in_default
unfolding request_of
returns-in_default c =
    rw (
      headed (goal.at.returns-in_default c).Else-not-is_headed,
      ne_eqb (get_or c.args.line.now 0 0) 0x2B (λ e. omega arith),
      ne_eqb (get_or c.args.line.now 0 0) 0x2D (λ e. omega arith),
      ne_eqb (get_or c.args.line.now 0 0) 0x3F (λ e. omega arith),
      ne_eqb (get_or c.args.line.now 0 0) 0x4C (λ e. omega arith),
    )
