-- A reply in one number: what a function of include/book.h returns, and what a host takes from it. Assumes nothing.
use Rattle.std.specs.Prelude.{ℕ, ◌+◌, ◌*◌, ◌/◌, ◌%◌}
use Rattle.answers.specs.declared.replies.Reply.{Reply}

-- 2 to the power 32: the number stands above it and the value below
abbrev pub radix : ℕ
radix = 4294967296

-- "Each call answers a number and a value": both in one number
abbrev pub packed : ℕ → ℕ → ℕ
packed number value = number * radix + value

-- BOOK_NUMBER and BOOK_VALUE of include/book.h: what a host takes from it is the reply, with a second value that is put by itself
unfoldable pub unpacked_with : ℕ → ℕ → Reply
unpacked_with second r = record { number = r / radix; value = r % radix; second = second }

-- without one
abbrev pub unpacked : ℕ → Reply
unpacked r = unpacked_with 0 r

-- next: what is returned is the number and how many letters may follow; the letters are put by themselves
unfoldable pub unpacked_next : ℕ → ℕ → Reply
unpacked_next letters r = record { number = r / radix; value = letters; second = r % radix }
