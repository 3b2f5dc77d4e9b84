-- Growing step by step: what is made on the way to some words is needed for them, if it is left of them after some letters. Assumes nothing.
use Prim.Native.Nat.{ℕ, suc, ◌+◌, ◌≤◌, ◌<◌}
use native.Mathlib.Omega.{arith}
use mathlib.Core.List.{List, Memᴰ}
use Rattle.std.specs.Prelude.{Result, Ok, Err}
use Rattle.letters.specs.Letters.{letters}
use Rattle.letters.proofs.LetterSet.{count_most}
use Rattle.sets.specs.Sets.{Words, Filled}
use Rattle.sets.specs.Residuals.{after, states}
use Rattle.sets.proofs.States.{after_filled, after-in-states}
use Rattle.rows.specs.Table.{Table, row_count, in_use, used_rows}
use Rattle.rows.specs.Tidy.{Tidy}
use Rattle.rows.proofs.Growth.{grown-self, grown-on}
use Rattle.growing.specs.declared.makes.Full.{Full}
use Rattle.growing.specs.Growing.{Grows, MadeFull, Makes}

-- where the words l are needed, so are the words k
abbrev pub Within : Words → Words → Type 0
Within k l = (ls : List Words) → (Filled l → Memᴰ l (states ls)) → Filled k → Memᴰ k (states ls)

pub within-after : (x : ℕ) → x < letters → (l : Words) → Within (after x l) l
within-after x h l ls needed some = after-in-states ls (needed (after_filled x l some)) x h some

-- nothing was made
pub grows_self : (t : Table) → Tidy t → (l : Words) → Grows t t l
grows_self t tidy l = record { tidy = tidy; grown = grown-self t; useful = λ ls needed us. us }

-- what was made for k was made for l
pub grows-within : {t u : Table} {k l : Words} → Grows t u k → Within k l → Grows t u l
grows-within grows within =
    record { tidy = grows.tidy; grown = grows.grown; useful = λ ls needed. grows.useful ls (within ls needed) }

pub grows-on : {t u v : Table} {k l : Words} → Grows t u k → Grows u v l → Within k l → Grows t v l
grows-on {t} {u} {v} first second within =
    record {
      tidy = second.tidy;
      grown = grown-on t u v first.grown second.grown;
      useful = λ ls needed us. second.useful ls needed (first.useful ls (within ls needed) us);
    }

few-rows : (t : Table) → used_rows t ≤ row_count t
few-rows t = count_most (row_count t) (λ r. in_use t r)

-- t has grown for k, and then a row is made for l: there are never more rows in use than rows
pub makes-on : {t u : Table} {k : Words} → Grows t u k → (v : Table) (l : Words) → Within k l → (b c : ℕ)
    → ((n : ℕ) → n ≤ row_count t → n ≤ used_rows u + b → n ≤ used_rows t + c) → (made : Result ℕ Full) → Makes b u v l made → Makes c t v l made
makes-on first v l within b c few (Ok s) second =
    let grows = grows-on first second.grows within in
    record {
      grows = grows;
      named = second.named;
      has = second.has;
      few = few (used_rows v) (omega (arith, few-rows v, grows.grown.long)) second.few;
    }
makes-on first v l within b c few (Err full) second =
    let grows = grows-on first second.grows within in
    record {
      grows = grows;
      full = second.full;
      few = few (suc (used_rows v)) (omega (arith, second.full, grows.grown.long)) second.few;
    }

-- no row is free for k, and so none for l
pub full-within : {most : ℕ} {t u : Table} {k l : Words} → MadeFull most t u k → Within k l → MadeFull most t u l
full-within full within = record { grows = grows-within full.grows within; full = full.full; few = full.few }
