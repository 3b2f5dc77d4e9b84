-- "Those marked P are the small proved set": P1 to P12 of 01, each with its sentence. `proofs/Examples.antt` proves that all of them hold.
-- Assumes nothing.
use Rattle.std.specs.Prelude.{ℕ, List, [], ◌∷◌}
use Rattle.model.specs.Call.Call.{ask, next, add, remove, clear, load, combine, rank, nth, used}
use Rattle.examples.specs.Text.{bytes, loadable}
use Rattle.examples.specs.Script.{Script}
use Rattle.examples.specs.Script.Step.{gives, pair, writes, holds}

-- where 01 names no room, the greatest
abbrev any_room : ℕ
any_room = 1000

-- "P1 Empty book: used 0; ask A for mission 0: 0."
abbrev p1 : Script
p1 = record { room = any_room; steps = gives used 0 0 ∷ pair (ask 0 (bytes "A")) 0 0 ∷ [] }

-- "P2 SLEW to mission 0: used 5. P3 Then SLEW to mission 1: still 5."
-- "P4 Then SLEWA to mission 0: used 10; mission 1 has no SLEWA. P5 Remove it: used 5."
abbrev p2-to-p5 : Script
p2-to-p5 =
    record {
      room = any_room;
      steps =
          gives (add 0 (bytes "SLEW")) 0 1
          ∷ gives used 0 5
          ∷ gives (add 1 (bytes "SLEW")) 0 1
          ∷ gives used 0 5
          ∷ gives (add 0 (bytes "SLEWA")) 0 1
          ∷ gives used 0 10
          ∷ pair (ask 1 (bytes "SLEWA")) 0 4
          ∷ gives (remove 0 (bytes "SLEWA")) 0 1
          ∷ gives used 0 5
          ∷ [];
    }

-- "P6 RATE and GATE on one list, nothing else: used 5."
abbrev p6 : Script
p6 =
    record {
      room = any_room;
      steps = gives (add 0 (bytes "RATE")) 0 1 ∷ gives (add 0 (bytes "GATE")) 0 1 ∷ gives used 0 5 ∷ [];
    }

-- "P7 00, 01, 10, 11 loaded as one list: used 3. Remove 11: used 4."
abbrev p7 : Script
p7 =
    record {
      room = any_room;
      steps =
          gives (load 0 (loadable ("00" ∷ "01" ∷ "10" ∷ "11" ∷ []))) 0 4
          ∷ gives used 0 3
          ∷ gives (remove 0 (bytes "11")) 0 1
          ∷ gives used 0 4
          ∷ [];
    }

-- "In room 3 that remove is refused, 11."
abbrev p7-in-room-3 : Script
p7-in-room-3 =
    record {
      room = 3;
      steps = gives (load 0 (loadable ("00" ∷ "01" ∷ "10" ∷ "11" ∷ []))) 0 4 ∷ gives (remove 0 (bytes "11")) 11 0 ∷ [];
    }

-- "P8 Room 5, SLEW in mission 0: EW to mission 1 is done, used 5; RATE to mission 1 would need 9, refused 11."
abbrev p8 : Script
p8 =
    record {
      room = 5;
      steps =
          gives (add 0 (bytes "SLEW")) 0 1
          ∷ gives (add 1 (bytes "EW")) 0 1
          ∷ gives used 0 5
          ∷ gives (add 1 (bytes "RATE")) 11 0
          ∷ [];
    }

-- "would need 9": where there is room, they are used
abbrev p8-with-room : Script
p8-with-room =
    record {
      room = any_room;
      steps =
          gives (add 0 (bytes "SLEW")) 0 1
          ∷ gives (add 1 (bytes "EW")) 0 1
          ∷ gives (add 1 (bytes "RATE")) 0 1
          ∷ gives used 0 9
          ∷ [];
    }

-- "Clear mission 0 first (mission 1 empty): RATE is done."
abbrev p8-cleared : Script
p8-cleared =
    record {
      room = 5;
      steps =
          gives (add 0 (bytes "SLEW")) 0 1
          ∷ gives (clear 0) 0 1
          ∷ gives (add 1 (bytes "RATE")) 0 1
          ∷ [];
    }

-- "P9 Room 6, SLEW in mission 0: SLEWS is done, used 6, though old and new rows side by side are 10."
abbrev p9 : Script
p9 =
    record {
      room = 6;
      steps = gives (add 0 (bytes "SLEW")) 0 1 ∷ gives (add 0 (bytes "SLEWS")) 0 1 ∷ gives used 0 6 ∷ [];
    }

-- "P10 Mission 0 has 00, 01; mission 1 has 01, 10: used 6. Into mission 2: both together 00, 01, 10; common 01; difference 00. Each gives used 7."
abbrev p10 : Script
p10 =
    record {
      room = any_room;
      steps =
          gives (load 0 (loadable ("00" ∷ "01" ∷ []))) 0 2
          ∷ gives (load 1 (loadable ("01" ∷ "10" ∷ []))) 0 2
          ∷ gives used 0 6
          ∷ gives (combine 1 0 1 2) 0 1
          ∷ holds 2 ("00" ∷ "01" ∷ "10" ∷ [])
          ∷ gives used 0 7
          ∷ gives (clear 2) 0 1
          ∷ gives (combine 2 0 1 2) 0 1
          ∷ holds 2 ("01" ∷ [])
          ∷ gives used 0 7
          ∷ gives (clear 2) 0 1
          ∷ gives (combine 3 0 1 2) 0 1
          ∷ holds 2 ("00" ∷ [])
          ∷ gives used 0 7
          ∷ [];
    }

-- "P11 List 00, 01, 10: rank of 01 is 1, of 1 is 2, of _ is 3; nth 2 is 10; nth 3 refused 10." 02, wish 3: "In P11 the rank of _ becomes 0"
abbrev p11 : Script
p11 =
    record {
      room = any_room;
      steps =
          gives (load 0 (loadable ("00" ∷ "01" ∷ "10" ∷ []))) 0 3
          ∷ gives (rank 0 (bytes "01")) 0 1
          ∷ gives (rank 0 (bytes "1")) 0 2
          ∷ gives (rank 0 (bytes "_")) 0 0
          ∷ writes (nth 0 2 24) "10"
          ∷ gives (nth 0 3 24) 10 0
          ∷ [];
    }

-- "P12 List SLEW, SLEWA: next after SLEW is 1,024 and 1." 02, wish 3: "in P12 next after SLEW becomes 2,048 and 1."
abbrev p12 : Script
p12 =
    record {
      room = any_room;
      steps = gives (load 0 (loadable ("SLEW" ∷ "SLEWA" ∷ []))) 0 2 ∷ pair (next 0 (bytes "SLEW")) 2048 1 ∷ [];
    }

abbrev pub table : List Script
table = p1 ∷ p2-to-p5 ∷ p6 ∷ p7 ∷ p7-in-room-3 ∷ p8 ∷ p8-with-room ∷ p8-cleared ∷ p9 ∷ p10 ∷ p11 ∷ p12 ∷ []
