-- A part of a lent slice, and when two parts are the same. Assumes nothing.
use Rattle.std.specs.Prelude.{ℕ, ◌+◌, ◌-◌, ◌<◌, ◌≡◌, List, length, take, drop}
use Rattle.std.specs.Borrow.{Bor}

-- the part of the slice from one place up to another: it stands there, and has the bytes there
pub record Part (whole : Bor (List ℕ)) (start end : ℕ) (part : Bor (List ℕ)) : Type 0 where
  pub block : part.ref_ptr.0 ≡ whole.ref_ptr.0
  pub offset : part.ref_ptr.1 ≡ whole.ref_ptr.1 + start
  pub bytes : part.now ≡ take (end - start) (drop start whole.now)

-- two parts are the same: they have the same bytes and, where they have some, stand at the same place
pub record SamePart (p q : Bor (List ℕ)) : Type 0 where
  pub bytes : p.now ≡ q.now
  pub block : 0 < length p.now → p.ref_ptr.0 ≡ q.ref_ptr.0
  pub offset : 0 < length p.now → p.ref_ptr.1 ≡ q.ref_ptr.1
