-- 02, wish 2: what was written is loaded again. Assumes nothing.
use Rattle.std.specs.Prelude.{ℕ, ◌≤◌, ◌<◌, ◌≡◌}
use Rattle.sets.specs.Residuals.{need}
use Rattle.model.specs.Lists.{list_of, replace}
use Rattle.rows.specs.Table.{Table, room}
use Rattle.rows.specs.Words.{lists}
use Rattle.answers.specs.declared.replies.Reply.{Reply}

-- "Loading them, where room allows, gives an equal list": what the list of mission m of the table t was written as is loaded into the list of
-- mission n of the table u, which is then the table after it
pub record LoadedAgain (t u after : Table) (m n : ℕ) (reply : Reply) : Type 0 where
  pub allowed : need (replace (lists u) n (list_of (lists t) m)) ≤ room u → reply.number ≡ 0
  pub refused : room u < need (replace (lists u) n (list_of (lists t) m)) → reply.number ≡ 11
  pub equal : reply.number ≡ 0 → list_of (lists after) n ≡ list_of (lists t) m
