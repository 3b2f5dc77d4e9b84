-- The rows that are reached from some roots, and the sets that are left of the roots' words: the words of a reached row are such a set, for
-- the words of a target are what is left after the letter; every such set is the words of a reached row, by the same step; and no two rows in
-- use have the same words. So the place of a row's words is one to one, and the rows are as many as the sets. Assumes nothing.
use Prim.Native.Nat.{ℕ, ◌≤◌}
use mathlib.Core.Path.{◌≡◌, refl, sym, ◌∙◌, ap, fun_ext}
use mathlib.Core.Bool.{Bool, true}
use mathlib.Core.List.{List, [], map}
use Rattle.letters.specs.Each.{Each}
use Rattle.letters.specs.LetterSet.{count_of}
use Rattle.sets.specs.Below.{those}
use Rattle.sets.specs.Sets.{Words, Filled}
use Rattle.sets.specs.Residuals.{after, states, place_in, need}
use Rattle.sets.proofs.Membership.{In, each_in, get_or-in, in-get_or, in_map, map-in}
use Rattle.sets.proofs.Below.{tests_agree}
use Rattle.sets.proofs.Pigeons.{pigeons}
use Rattle.sets.proofs.Distinct.{in_place, place_at}
use Rattle.sets.proofs.States.{Carried, states-apart, list-in-states, after-in-states, states-all}
use Rattle.rows.specs.Table.{Table, row_count, starts, target, in_use, used_rows}
use Rattle.rows.specs.Tidy.{Used, Named, Arc, Tidy, Sound}
use Rattle.rows.specs.Words.{words, lists}
use Rattle.rows.specs.Reach.{reached_from, reached}
use Rattle.rows.specs.Growth.{Useful}
use Rattle.rows.proofs.Facts.{in-use-used, used-in-use, target-named}
use Rattle.rows.proofs.Words.{words-target, has_word, filled-used, same-words}
use Rattle.rows.proofs.Reach.{reached-root, reached-arc, reached-all, reached-used}
use Rattle.rows.proofs.Books.{starts-named, sound-reached}
use Rattle.minimal.specs.Places.{OneToOne}
use Rattle.minimal.proofs.Counting.{length-those, in-those, those-in, those-apart, equally-many}

-- the row is in use and has these words
abbrev Holds : Table → ℕ → Words → Type 0
Holds t r k = Used t r × (words t r ≡ k)

holds-one : (t : Table) → Tidy t → (r s : ℕ) (k : Words) → Holds t r k → Holds t s k → r ≡ s
holds-one t tidy r s k p q = same-words t tidy r s p.0 q.0 (p.1 ∙ sym q.1)

-- two sets of the same place are one
place-one : (ls : List Words) {k l : Words} → In k (states ls) → In l (states ls) → place_in k (states ls) ≡ place_in l (states ls) → k ≡ l
place-one ls i j e = sym (in_place i).1 ∙ rw e (in_place j).1

module _ (t : Table) (tidy : Tidy t) (roots : List ℕ) (named : Each (Named t) roots) where
  abbrev Reached : ℕ → Type 0
  Reached r = reached_from t roots r ≡ true

  used : (r : ℕ) → Reached r → Used t r
  used = reached-used t tidy roots named

  -- the words of the roots
  abbrev given : List Words
  given = map (λ n. words t n) roots

  reached-in-states : (r : ℕ) → Reached r → In (words t r) (states given)
  reached-in-states = reached-all t tidy roots named (λ r. In (words t r) (states given)) root step
    where
      root : (r : ℕ) → In r roots → Used t r → In (words t r) (states given)
      root r i u =
          let (m, h, e) = in-get_or [] (in_map (λ n. words t n) i) in
          rw e at (list-in-states given m h (rw e (has_word t tidy r u)))

      step : (s x : ℕ) → Arc t s x → In (words t s) (states given) → In (words t (target t s x)) (states given)
      step s x a i =
          let e = words-target t tidy s x a.used a.letter in
          rw e (after-in-states given i x a.letter (rw e at (has_word t tidy (target t s x) (tidy.targets s x a))))

  -- the set is the words of a reached row
  abbrev Kept : Words → Type 0
  Kept k = (r : ℕ) × Reached r × (words t r ≡ k)

  root_kept : (r : ℕ) → In r roots → Filled (words t r) → Kept (words t r)
  root_kept r i f = (r, reached-root t tidy roots named r i (filled-used t tidy r (each_in (Named t) named i) f), refl)

  after_kept : Carried Kept
  after_kept x h k p f =
      let (r, q, e) = p in
      let same : words t (target t r x) ≡ after x k = words-target t tidy r x (used r q) h ∙ ap (after x) e in
      let there = (filled-used t tidy (target t r x) (target-named t tidy r x (used r q) h) (rw same f)).positive in
      (target t r x, reached-arc t tidy roots named r x q (record { used = used r q; letter = h; there = there }), same)

  states-kept : {k : Words} → In k (states given) → Kept k
  states-kept = states-all Kept after_kept given (λ m h f.
      let (r, i, e) = map-in _ roots (get_or-in [] given m h) in
      rw e (root_kept r i (rw e at f)))

  reached-one-to-one : OneToOne (map (λ n. words t n) roots) t (λ r. reached_from t roots r ≡ true)
  unfolding need
  reached-one-to-one =
      record {
        inside = λ r p. (in_place (reached-in-states r p)).0;
        one = λ r s p q e. same-words t tidy r s (used r p) (used s q) (place-one given (reached-in-states r p) (reached-in-states s q) e);
        onto = λ p h.
            let (r, q, e) = states-kept (get_or-in [] (states given) p h) in
            (r, q, rw e (place_at (states given) (states-apart given) p h));
      }

  pub reached-need : count_of (row_count t) (λ r. reached_from t roots r) ≡ need (map (λ n. words t n) roots)
  unfolding need
  reached-need =
      let test : ℕ → Bool = λ r. reached_from t roots r in
      sym (length-those test (row_count t))
      ∙ equally-many (Holds t) (holds-one t tidy) (λ r k l p q. sym p.1 ∙ q.1) (those (row_count t) test) (states given)
      (those-apart test (row_count t)) (states-apart given)
      (λ r i. let p = (those-in test (row_count t) i).1 in (words t r, reached-in-states r p, (used r p, refl)))
      (λ k i. let (r, p, e) = states-kept i in (r, in-those test (row_count t) r (used r p).inside p, (used r p, e)))

-- in a sound book the rows in use are those that are reached from the starts
module _ (t : Table) (facts : Sound t) where
  tidy : Tidy t
  tidy = facts.tidy

  named : Each (Named t) (starts t)
  named = starts-named t tidy

  starts-used : (r : ℕ) → reached t r ≡ true → Used t r
  starts-used = reached-used t tidy (starts t) named

  pub used-in-states : (r : ℕ) → Used t r → In (words t r) (states (lists t))
  used-in-states r p = reached-in-states t tidy (starts t) named r (sound-reached t facts r p)

  pub states-used : {k : Words} → In k (states (lists t)) → (r : ℕ) × Used t r × (words t r ≡ k)
  states-used i = let (r, e, same) = states-kept t tidy (starts t) named i in (r, starts-used r e, same)

  pub used-one-to-one : OneToOne (lists t) t (Used t)
  used-one-to-one =
      let places = reached-one-to-one t tidy (starts t) named in
      record {
        inside = λ r p. places.inside r (sound-reached t facts r p);
        one = λ r s p q. places.one r s (sound-reached t facts r p) (sound-reached t facts s q);
        onto = λ p h. let (r, e, same) = places.onto p h in (r, starts-used r e, same);
      }

  in-use-reached : (r : ℕ) → in_use t r ≡ reached t r
  in-use-reached r =
      tests_agree (in_use t r) (reached t r) (λ e. sound-reached t facts r (in-use-used t r e)) (λ e. used-in-use (starts-used r e))

  pub used-rows-need : used_rows t ≡ need (lists t)
  used-rows-need = ap (count_of (row_count t)) (fun_ext in-use-reached) ∙ reached-need t tidy (starts t) named

-- a row in use whose words are left of the roots' words has the words of a row that is reached from them, so it is that row
pub useful-reached : (t : Table) → Tidy t → (roots : List ℕ) → Each (Named t) roots → Useful (map (λ n. words t n) roots) t
    → (r : ℕ) → Used t r → reached_from t roots r ≡ true
useful-reached t tidy roots named useful r p =
    let (s, e, same) = states-kept t tidy roots named (useful r p) in
    rw (same-words t tidy r s p (reached-used t tidy roots named s e) (sym same)) e

pub useful-rows : (t : Table) → Tidy t → (ls : List Words) → Useful ls t → used_rows t ≤ need ls
unfolding need
useful-rows t tidy ls useful =
    let test : ℕ → Bool = λ r. in_use t r in
    rw (← (length-those test (row_count t)))
    (pigeons (Holds t) (holds-one t tidy) (those (row_count t) test) (states ls) (those-apart test (row_count t))
    (λ r i. let p = in-use-used t r (those-in test (row_count t) i).1 in (words t r, useful r p, (p, refl))))
