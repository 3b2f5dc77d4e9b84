-- A table as the book that a call finds. Assumes nothing.
use Rattle.model.specs.Call.{Book}
use Rattle.rows.specs.Table.{Table, length_ok, room}
use Rattle.rows.specs.Words.{lists}
use Rattle.rows.specs.Rules.{sound}

-- what a call finds in a table
abbrev pub book_of : Table → Book
book_of t = record { length_ok = length_ok t; sound = sound t; room = room t; lists = lists t }
