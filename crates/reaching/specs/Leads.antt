-- An array that says of each row how much leads to it: the starts, and the arcs of rows that something leads to. Assumes nothing.
use Rattle.std.specs.Prelude.{ℕ, ◌+◌, ◌≤◌, ◌<◌, ◌≡◌, true, cond, List, ◌∷◌, eqb, ltb, length, get_or}
use Rattle.letters.specs.LetterSet.{flag}
use Rattle.sets.specs.Below.{total}
use Rattle.model.specs.Lists.{missions}
use Rattle.rows.specs.Table.{Table, row_count, start, starts}
use Rattle.rows.specs.Tidy.{Used}
use Rattle.rows.specs.Reach.{reached_from}
use Rattle.index.specs.Arcs.{arcs_of}

-- how many of the first n starts are row s
abbrev pub starts_at : Table → ℕ → ℕ → ℕ
starts_at t n s = total n (λ m. flag (eqb (start t m) s))

-- how many arcs of row r lead to row s, if something leads to row r
abbrev pub led_arcs : Table → List ℕ → ℕ → ℕ → ℕ
led_arcs t leads s r = cond (ltb 0 (get_or leads r 0)) (arcs_of t r s) 0

-- what leads to row s
abbrev pub leads_to : Table → List ℕ → ℕ → ℕ
leads_to t leads s = starts_at t missions s + total (row_count t) (λ r. led_arcs t leads s r)

-- the array says so, but for what is still to be taken off
pub record Owes (t : Table) (leads : List ℕ) (debt : ℕ → ℕ) : Type 0 where
  pub long : row_count t ≤ length leads
  pub owes : (s : ℕ) → 0 < s → s < row_count t → get_or leads s 0 ≡ leads_to t leads s + debt s

-- one is to be taken off at row n, besides others
abbrev pub OwesOne : Table → List ℕ → ℕ → Type 0
OwesOne t leads n = (debt : ℕ → ℕ) × Owes t leads (λ s. debt s + flag (eqb n s))

-- it is taken off, and whatever else was to be taken off still is
abbrev pub Releases : Table → ℕ → List ℕ → List ℕ → Type 0
Releases t n before after = (debt : ℕ → ℕ) → Owes t before (λ s. debt s + flag (eqb n s)) → Owes t after debt

-- every row in use is reached from a start, or from one row more
abbrev pub ReachedWith : Table → ℕ → Type 0
ReachedWith t more = (s : ℕ) → Used t s → reached_from t (more ∷ starts t) s ≡ true
