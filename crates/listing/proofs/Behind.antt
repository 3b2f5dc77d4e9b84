-- The lines of words behind the letters walked. Behind no letter they are the list's lines; one letter more before the words is one letter more
-- that is walked. So the lines from a row are the letters walked as a line, where a name may end there, and letter by letter the lines from the
-- targets, with that letter walked too. Assumes nothing.
use Prim.Native.Nat.{ℕ, zero, suc, ◌≤◌, ◌<◌}
use native.Mathlib.Omega.{arith}
use native.Mathlib.Decide.{ℕ_discrete}
use mathlib.Core.Path.{◌≡◌, refl, ap}
use mathlib.Core.Bool.{Bool, true, false}
use mathlib.Core.List.{List, [], ◌∷◌, ◌++◌, append_assoc, append-nil}
use Rattle.letters.specs.Letters.{letters, byte_of}
use Rattle.letters.specs.Lists.{line, lines}
use Rattle.sets.specs.Below.{over}
use Rattle.sets.specs.Sets.{Words}
use Rattle.rows.specs.Table.{Table, target, ends}
use Rattle.rows.specs.Words.{behind, words}
use Rattle.rows.specs.Tidy.{Used, Tidy}
use Rattle.counting.proofs.Ahead.{ended, words-split}
use Rattle.listing.specs.Lists.{lines_behind, line_here}

pub behind-none : (l : Words) → lines_behind [] l ≡ lines l
unfolding lines_behind lines
behind-none [] = refl
behind-none (w ∷ l) = ap (λ (b : List ℕ). line w ++ b) (behind-none l)

module _ (bytes : List ℕ) where
  pub behind-append : (k l : Words) → lines_behind bytes (k ++ l) ≡ lines_behind bytes k ++ lines_behind bytes l
  unfolding lines_behind
  behind-append [] l = refl
  behind-append (w ∷ k) l = rw (behind-append k l, append_assoc (bytes ++ line w))

  behind-letter : (x : ℕ) (l : Words) → lines_behind bytes (behind x l) ≡ lines_behind (bytes ++ byte_of x ∷ []) l
  unfolding lines_behind
  behind-letter x [] = refl
  behind-letter x (w ∷ l) = rw (behind-letter x l, append_assoc bytes (byte_of x ∷ []) (line w))

  behind-over : (given : ℕ → Words) (n : ℕ)
      → lines_behind bytes (over n (λ x. behind x (given x))) ≡ over n (λ x. lines_behind (bytes ++ byte_of x ∷ []) (given x))
  unfolding lines_behind over
  behind-over given zero = refl
  behind-over given (suc n) = rw (behind-append, behind-over given n, behind-letter)

  behind-ended : (b : Bool) → lines_behind bytes (ended b) ≡ line_here b bytes
  unfolding lines_behind
  behind-ended true = append-nil _
  behind-ended false = refl

-- the lines from the letter's target
abbrev pub arc_lines : Table → ℕ → List ℕ → ℕ → List ℕ
arc_lines t r bytes x = lines_behind (bytes ++ byte_of x ∷ []) (words t (target t r x))

pub row-lines : (t : Table) → Tidy t → (r : ℕ) → Used t r → (bytes : List ℕ)
    → lines_behind bytes (words t r) ≡ line_here (ends t r) bytes ++ over letters (arc_lines t r bytes)
row-lines t tidy r u bytes =
    rw (words-split t tidy r u, behind-append, behind-ended, behind-over bytes (λ x. words t (target t r x)) letters)

-- what gives nothing may be skipped
pub over_skip : {A : Type 0} (given : ℕ → List A) (n k : ℕ) → n ≤ k → ((i : ℕ) → n ≤ i → i < k → given i ≡ []) → over k given ≡ over n given
unfolding over
over_skip given n zero h none = let e : n ≡ 0 = omega arith in rw e
over_skip given n (suc k) h none =
    elim (ℕ_discrete n (suc k)) [
      | yes e ↦ rw e
      | no e ↦ rw (none k (omega arith) (omega arith), append-nil) (over_skip given n k (omega arith) (λ i low below. none i low (omega arith)))
    ]
