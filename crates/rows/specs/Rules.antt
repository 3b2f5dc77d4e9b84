-- 01, "A book is sound when all of this holds": the seven rules as seven tests. Assumes nothing.
use Rattle.std.specs.Prelude.{ℕ, suc, ◌+◌, ◌*◌, Bool, not, cond, ◌&&◌, ◌||◌, eqb, leb, ltb, get_or}
use Rattle.letters.specs.Letters.{letters}
use Rattle.letters.specs.Names.{longest}
use Rattle.letters.specs.Below.{all_below}
use Rattle.sets.specs.Below.{some_below, greatest}
use Rattle.model.specs.Lists.{missions}
use Rattle.rows.specs.Table.{Table, width, row_count, length_ok, room, is_row, start, mark, height, target, number39, in_use, used_rows}

-- the test passes at every state row, or at every row in use
abbrev pub every_row : Table → (ℕ → Bool) → Bool
every_row t test = all_below (row_count t) (λ r. not (is_row t r) || test r)

abbrev pub if_used : Table → ℕ → Bool → Bool
if_used t r b = not (in_use t r) || b

abbrev pub every_used : Table → (ℕ → Bool) → Bool
every_used t test = all_below (row_count t) (λ r. if_used t r (test r))

-- 1. "Each start is 0 or a row with mark 1; the rest of the head is 0."
abbrev pub start_ok : Table → ℕ → Bool
start_ok t n = eqb n 0 || (is_row t n && eqb (mark t n) 1)

abbrev pub starts_ok : Table → Bool
starts_ok t = all_below missions (λ m. start_ok t (start t m))

abbrev pub rest_ok : Table → Bool
rest_ok t = all_below width (λ i. ltb i missions || eqb (get_or t i 0) 0)

unfoldable pub rule1 : Table → Bool
rule1 t = starts_ok t && rest_ok t

-- 2. "Each mark is 0, 1 or 2, and a free row is forty zeros."
abbrev pub is_zeros : Table → ℕ → Bool
is_zeros t r = all_below width (λ i. eqb (get_or t (r * width + i) 0) 0)

abbrev pub mark_ok : Table → ℕ → Bool
mark_ok t r = leb (mark t r) 2 && (not (eqb (mark t r) 0) || is_zeros t r)

unfoldable pub rule2 : Table → Bool
rule2 t = every_row t (λ r. mark_ok t r)

-- 3. "In a row in use every target is 0 or a row in use; the height is 0 if there is no target, else one more than the greatest height among
-- its targets, and at most 24; number 39 is 0."
abbrev pub targets_ok : Table → ℕ → Bool
targets_ok t r = all_below letters (λ x. eqb (target t r x) 0 || in_use t (target t r x))

-- what a target asks of the height: one more than its own, or 0 for none
abbrev pub above : Table → ℕ → ℕ
above t n = cond (eqb n 0) 0 (suc (height t n))

abbrev pub height_ok : Table → ℕ → Bool
height_ok t r = eqb (height t r) (greatest letters (λ x. above t (target t r x))) && leb (height t r) longest

abbrev pub number39_ok : Table → ℕ → Bool
number39_ok t r = eqb (number39 t r) 0

abbrev pub arcs_ok : Table → ℕ → Bool
arcs_ok t r = targets_ok t r && (height_ok t r && number39_ok t r)

unfoldable pub rule3 : Table → Bool
rule3 t = every_used t (λ r. arcs_ok t r)

-- 4. "A row with mark 1 has a target."
abbrev pub has_target : Table → ℕ → Bool
has_target t r = some_below letters (λ x. ltb 0 (target t r x))

abbrev pub end_ok : Table → ℕ → Bool
end_ok t r = not (eqb (mark t r) 1) || has_target t r

unfoldable pub rule4 : Table → Bool
rule4 t = every_used t (λ r. end_ok t r)

-- 5. "Each row in use is a start or the target of a row in use."
abbrev pub is_start : Table → ℕ → Bool
is_start t r = some_below missions (λ m. eqb (start t m) r)

abbrev pub points_at : Table → ℕ → ℕ → Bool
points_at t s r = some_below letters (λ x. eqb (target t s x) r)

abbrev pub is_target : Table → ℕ → Bool
is_target t r = some_below (row_count t) (λ s. in_use t s && points_at t s r)

abbrev pub is_pointed : Table → ℕ → Bool
is_pointed t r = is_start t r || is_target t r

unfoldable pub rule5 : Table → Bool
rule5 t = every_used t (λ r. is_pointed t r)

-- 6. "No two rows in use agree in mark and all 37 targets."
abbrev pub agree : Table → ℕ → ℕ → Bool
agree t r s = eqb (mark t r) (mark t s) && all_below letters (λ x. eqb (target t r x) (target t s x))

abbrev pub has_twin : Table → ℕ → Bool
has_twin t s = some_below s (λ r. in_use t r && agree t r s)

unfoldable pub rule6 : Table → Bool
rule6 t = every_used t (λ s. not (has_twin t s))

-- 7. "At most room rows are in use."
unfoldable pub rule7 : Table → Bool
rule7 t = leb (used_rows t) (room t)

-- a slice of another length is no book, and so not a sound one
unfoldable pub sound : Table → Bool
sound t = length_ok t && (rule1 t && (rule2 t && (rule3 t && (rule4 t && (rule5 t && (rule6 t && rule7 t))))))
