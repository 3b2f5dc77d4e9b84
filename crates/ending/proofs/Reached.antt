-- After rows were made for a list, every row in use is reached from the starts or from the row that was made: its words are left of the lists or
-- of the new one, so it is one of the rows that are reached from them. Assumes nothing.
use Prim.Native.Nat.{ℕ, suc}
use native.Mathlib.Omega.{arith}
use mathlib.Core.Path.{◌≡◌}
use mathlib.Core.Bool.{true, or-true}
use mathlib.Core.List.{◌∷◌}
use Rattle.sets.specs.Sets.{Words}
use Rattle.sets.specs.Residuals.{states}
use Rattle.sets.proofs.Membership.{In}
use Rattle.sets.proofs.States.{list-in-states, after-in-states, states-all}
use Rattle.rows.specs.Table.{Table, starts}
use Rattle.rows.specs.Words.{lists}
use Rattle.rows.specs.Rules.{sound}
use Rattle.rows.specs.Tidy.{Used}
use Rattle.rows.specs.Reach.{reached_from}
use Rattle.rows.specs.Growth.{Useful}
use Rattle.rows.proofs.Rules.{sound-facts}
use Rattle.rows.proofs.Books.{starts-named, sound-reached}
use Rattle.rows.proofs.Growth.{lists-kept}
use Rattle.minimal.proofs.Theorems.{sound-useful, needed-reached}
use Rattle.growing.specs.Growing.{MadeRow}

module _ (t : Table) (e : sound t ≡ true) where
  -- what the lists need they need with one list more
  still-useful : (l : Words) → Useful (l ∷ lists t) t
  still-useful l r p =
      states-all (λ k. In k (states (l ∷ lists t))) (λ x g k i f. after-in-states (l ∷ lists t) i x g f) (lists t)
      (λ n h f. list-in-states (l ∷ lists t) (suc n) (omega arith) f) (sound-useful t e r p)

  pub made-reached : {u : Table} {most r : ℕ} {l : Words} → MadeRow most t u l r → (s : ℕ) → Used u s → reached_from u (r ∷ starts u) s ≡ true
  made-reached {u} {r = r} {l = l} made =
      let tidy = made.grows.tidy in
      needed-reached u tidy (r ∷ starts u) (made.named, starts-named u tidy)
      (rw (made.has, lists-kept t u made.grows.grown (sound-facts t e).tidy)
      (made.grows.useful (l ∷ lists t) (λ f. list-in-states (l ∷ lists t) 0 (omega arith) f) (still-useful l)))

  -- no row more
  pub all-reached : (s : ℕ) → Used t s → reached_from t (0 ∷ starts t) s ≡ true
  all-reached s p = rw (sound-reached t (sound-facts t e) s p, or-true)
