-- The automaton of a tidy table. Its states are the rows in use, and a row, taken as a state, accepts the row's words: by recursion on the
-- word, since the words of a target are what is left after the letter. Heights fall along a walk, so there is no cycle; a row in use has a
-- word, so a final state is reached from it; rows with the same language have the same words and are one; and what is reached by arcs from
-- the starts is reached by a word, letter by letter. Assumes nothing.
use Prim.Native.Nat.{ℕ, ◌+◌, ◌≤◌, ◌<◌}
use native.Mathlib.Omega.{arith}
use mathlib.Core.Path.{◌≡◌, refl, sym, ◌∙◌, ap}
use mathlib.Core.Bool.{true, and-eq-true_iff}
use mathlib.Core.Logic.{inl, inr}
use mathlib.Core.List.{[], ◌∷◌}
use lib.ListN.{length, get_or, length-map, get_or-map}
use Rattle.letters.specs.Words.{Word, Spelled}
use Rattle.sets.specs.Sets.{member}
use Rattle.sets.specs.Automata.{Once, size, is_state, end, leads, in_language, Languages, acyclic, reachable, equivalent}
use Rattle.sets.proofs.Membership.{In, listed_in, in-listed, not_listed, each_in, get_or-in, in-get_or}
use Rattle.sets.proofs.Sets.{member-each, plain-ext}
use Rattle.sets.proofs.Residuals.{member-after}
use Rattle.sets.proofs.States.{filled-member}
use Rattle.sets.proofs.Automata.{none-accepted, accepts-empty, accepts-step, leads-state, reachable-self, reachable-arc}
use Rattle.rows.specs.Table.{Table, row_count, starts, height, target, in_use, used_rows}
use Rattle.rows.specs.Tidy.{Used, Named, Arc, Tidy}
use Rattle.rows.specs.Words.{words, lists}
use Rattle.rows.specs.Reach.{reached}
use Rattle.rows.proofs.Facts.{in-use-used, used-in-use, named-cases, target-named}
use Rattle.rows.proofs.Words.{words-plain, words-none, empty-word, words-target, has_word, same-words}
use Rattle.rows.proofs.Reach.{reached-all}
use Rattle.rows.proofs.Books.{starts-named}
use Rattle.minimal.specs.Book.{automaton}
use Rattle.minimal.proofs.Counting.{length-those, in-those, those-in, those-apart, apart-once}

module _ (t : Table) where
  state-in : {r : ℕ} → In r (automaton t).states → Used t r
  state-in {r} i = in-use-used t r (those-in (λ s. in_use t s) (row_count t) i).1

  pub state-used : (r : ℕ) → is_state (automaton t) r ≡ true → Used t r
  state-used r e = state-in (listed_in r (automaton t).states e)

  used-state : {r : ℕ} → Used t r → is_state (automaton t) r ≡ true
  used-state {r} u = in-listed (in-those (λ s. in_use t s) (row_count t) r u.inside (used-in-use u))

  pub automaton-size : size (automaton t) ≡ used_rows t
  automaton-size = length-those (λ r. in_use t r) (row_count t)

  pub automaton-once : Once (automaton t).states
  automaton-once = apart-once (automaton t).states (those-apart (λ r. in_use t r) (row_count t))

module _ (t : Table) (tidy : Tidy t) where
  none-accepts : (w : Word) (n : ℕ) → n ≡ 0 → in_language (automaton t) w n ≡ member w (words t n)
  unfolding member
  none-accepts w n e =
      let none = not_listed 0 (automaton t).states (λ i. omega (arith, (state-in t i).positive)) in
      rw (e, words-none t 0 refl) (none-accepted (automaton t) 0 none w)

  accepts-words : (w : Word) → Spelled w → (n : ℕ) → Named t n → in_language (automaton t) w n ≡ member w (words t n)
  accepts-words [] g n named =
      elim (named-cases named) [
        | inl u ↦ accepts-empty (automaton t) n (used-state t u) ∙ sym (empty-word t tidy n u)
        | inr e ↦ none-accepts [] n e
      ]
  accepts-words (x ∷ w) g n named =
      elim (named-cases named) [
        | inl u ↦
            accepts-step (automaton t) n (used-state t u) x w
            ∙ (accepts-words w g.1 (target t n x) (target-named t tidy n x u g.0)
            ∙ rw (words-target t tidy n x u g.0) (member-after x w (words t n)))
        | inr e ↦ none-accepts (x ∷ w) n e
      ]

  pub automaton-languages : Languages (automaton t) (lists t)
  automaton-languages =
      record {
        one_each = sym (length-map (starts t) (λ n. words t n));
        language = λ m h w g.
            let inside : m < length (starts t) = omega (arith, length-map (starts t) (λ n. words t n)) in
            let same : get_or (lists t) m [] ≡ words t (get_or (starts t) m 0) =
            rw (words-none t 0 refl) at (get_or-map (λ n. words t n) (starts t) m 0) in
            rw same (accepts-words w g (get_or (starts t) m 0) (each_in (Named t) (starts-named t tidy) (get_or-in 0 (starts t) m inside)));
      }

  heights-fall : (w : Word) → Spelled w → (r : ℕ) → leads (automaton t) w r ≡ true
      → height t (end (automaton t) w r) + length w ≤ height t r
  unfolding leads end
  heights-fall [] g r e = omega arith
  heights-fall (x ∷ w) g r e =
      let (state, rest) = (and-eq-true_iff (is_state (automaton t) r) _).0 e in
      let next = state-used t (target t r x) (leads-state (automaton t) w (target t r x) rest) in
      let arc : Arc t r x = record { used = state-used t r state; letter = g.0; there = next.positive } in
      omega (arith, heights-fall w g.1 (target t r x) rest, tidy.lower r x arc)

  pub automaton-acyclic : acyclic (automaton t)
  automaton-acyclic r x w g e same = omega (arith, heights-fall (x ∷ w) g r e, ap (λ s. height t s) same)

  pub automaton-useful : (r : ℕ) → is_state (automaton t) r ≡ true → (f : ℕ) × reachable (automaton t) r f × ((automaton t).final f ≡ true)
  automaton-useful r e =
      let used = state-used t r e in
      let (w, m) = filled-member (words t r) (has_word t tidy r used) in
      let spelled = member-each Spelled (words t r) (words-plain t r).spelled w m in
      let (defined, final) = (and-eq-true_iff (leads (automaton t) w r) _).0 (accepts-words w spelled r (λ _. used) ∙ m) in
      (end (automaton t) w r, record { word = w; spelled = spelled; defined = defined; there = refl }, final)

  pub automaton-different : (r s : ℕ) → is_state (automaton t) r ≡ true → is_state (automaton t) s ≡ true → equivalent (automaton t) r s
      → r ≡ s
  automaton-different r s d e same =
      let p = state-used t r d in
      let q = state-used t s e in
      same-words t tidy r s p q
      (plain-ext (words t r) (words t s) (words-plain t r) (words-plain t s)
      (λ w g. sym (accepts-words w g r (λ _. p)) ∙ (same w g ∙ accepts-words w g s (λ _. q))))

  pub automaton-reached : (r : ℕ) → reached t r ≡ true → (m : ℕ) × (m < length (starts t)) × reachable (automaton t) (get_or (starts t) m 0) r
  automaton-reached = reached-all t tidy (starts t) (starts-named t tidy) Found root step
    where
      Found : ℕ → Type 0
      Found r = (m : ℕ) × (m < length (starts t)) × reachable (automaton t) (get_or (starts t) m 0) r

      root : (r : ℕ) → In r (starts t) → Used t r → Found r
      root r i u = let (m, h, e) = in-get_or 0 i in (m, h, rw e (reachable-self (automaton t) r (used-state t u)))

      step : (s x : ℕ) → Arc t s x → Found s → Found (target t s x)
      step s x a p =
          let (m, h, way) = p in
          (m, h, reachable-arc (automaton t) _ s x way a.letter (used-state t (tidy.targets s x a)))
