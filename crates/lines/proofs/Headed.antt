-- What is known of a headed line: its head is whole, and bytes 2 and 3 are digits. Assumes nothing.
use Prim.Native.Nat.{ℕ, ◌≤◌}
use mathlib.Core.Path.{◌≡◌}
use mathlib.Core.Bool.{true, and-eq-true_iff}
use mathlib.Core.List.{List}
use borrow.Author.Tests.{leb-true}
use lib.Dec.{eqb, leb}
use lib.ListN.{length}
use Rattle.printing.specs.Printed.{space}
use Rattle.lines.specs.Requests.{head_length, byte, is_digit, is_headed}

-- the byte is one from 0x30 to 0x39
pub record Digit (b : ℕ) : Type 0 where
  pub low : 0x30 ≤ b
  pub high : b ≤ 0x39

digit-is : (b : ℕ) → is_digit b ≡ true → Digit b
digit-is b e =
    let both = (and-eq-true_iff _ _).0 e in
    record { low = leb-true _ _ both.0; high = leb-true _ _ both.1 }

pub record Headed (line : List ℕ) : Type 0 where
  pub long : head_length ≤ length line
  pub tens : Digit (byte line 2)
  pub ones : Digit (byte line 3)

pub headed-is : (line : List ℕ) → is_headed line ≡ true → Headed line
headed-is line e =
    let long = (and-eq-true_iff (leb head_length (length line)) _).0 e in
    let digits = ((and-eq-true_iff (eqb (byte line 1) space) _).0 long.1).1 in
    let each = (and-eq-true_iff (is_digit (byte line 2)) _).0 digits in
    record { long = leb-true _ _ long.0; tens = digit-is _ each.0; ones = digit-is _ each.1 }
