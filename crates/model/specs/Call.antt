-- The calls with their arguments: mission, operation and n are numbers; names, prefixes and lists are bytes. Assumes nothing.
use Rattle.std.specs.Prelude.{ℕ, Bool, true, List, ◌++◌, length, drop}
use Rattle.sets.specs.Sets.{Words}

pub data Call : Type 0 where
  empty : Call
  check : Call
  ask : ℕ → List ℕ → Call
  next : ℕ → List ℕ → Call
  add : ℕ → List ℕ → Call
  remove : ℕ → List ℕ → Call
  clear : ℕ → Call
  load : ℕ → List ℕ → Call
  -- 02, wish 2: the mission, and the lists of two desks
  load_two : ℕ → List ℕ → List ℕ → Call
  -- the operation, and the missions a, b and c
  combine : ℕ → ℕ → ℕ → ℕ → Call
  count : ℕ → Call
  rank : ℕ → List ℕ → Call
  -- the mission, n, and the number of bytes of the answer buffer
  nth : ℕ → ℕ → ℕ → Call
  -- 02, wish 2: the mission, and the number of bytes of the answer buffer
  write : ℕ → ℕ → Call
  used : Call

-- what a call finds
pub record Book : Type 0 where
  -- the slice has 40k numbers, with k from 27 to 1,026
  pub length_ok : Bool
  pub sound : Bool
  pub room : ℕ
  pub lists : List Words

-- a sound book
abbrev pub book_with : ℕ → List Words → Book
book_with room ls = record { length_ok = true; sound = true; room = room; lists = ls }

-- "Each call answers a number and a value." ask and next answer a second value, nth and write put bytes at the front of their buffer, and some
-- calls change the lists.
pub record Outcome : Type 0 where
  pub number : ℕ
  pub value : ℕ
  pub second : ℕ
  pub written : List ℕ
  pub lists : List Words

-- an answer buffer with bytes written to its front: "later bytes stay"
abbrev pub overlaid : List ℕ → List ℕ → List ℕ
overlaid written buffer = written ++ drop (length written) buffer
