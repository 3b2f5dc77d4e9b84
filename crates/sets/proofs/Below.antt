-- The laws of what is said of the numbers below n and of what they give: a test passes at one of them; what stands in the list of what they
-- give stands in what one of them gives, and lists of words that rise, one before the other, give a list that rises; its length is the sum of
-- their lengths, and what each gives stands behind as many as the lower ones give; the greatest is at least each, and at most what is at least
-- each; a sum holds the sum of fewer, is the same where the others give 0, and differs by one number where only one gives another; and the list
-- of one thing of each has them in their places. Assumes nothing.
use Prim.Native.Nat.{ℕ, zero, suc, ◌+◌, ◌*◌, ◌≤◌, ◌<◌}
use native.Mathlib.Omega.{arith}
use native.Mathlib.Decide.{ℕ_discrete, dec_lt}
use mathlib.Core.Path.{◌≡◌, refl, sym, ◌∙◌}
use mathlib.Core.Bool.{Bool, true, false, ◌&&◌, or-true, and-eq-true_iff, false≢true}
use mathlib.Core.Logic.{inl, inr}
use mathlib.Core.List.{List, [], ◌∷◌}
use lib.Dec.{eqb, ltb}
use lib.ListN.{length, get_or, length-append, get_or-append}
use lib.Seq.{get_or_at, get_or-append-add}
use borrow.Author.Tests.{ltb-true, eqb-true, lt-ltb, eq-eqb}
use Rattle.letters.specs.Each.{Each}
use Rattle.letters.specs.Words.{Word, before}
use Rattle.letters.proofs.Below.{agree-below}
use Rattle.sets.specs.Below.{some_below, greatest, total, over, each}
use Rattle.sets.specs.Sets.{Words, member, Rising, keep}
use Rattle.sets.proofs.Sets.{member-append, rising-append}
use Rattle.sets.proofs.Membership.{either, In, each_append, nil-in, append-in, in_left, in_right, keep_append}

-- two tests that pass together are the same
pub tests_agree : (a b : Bool) → (a ≡ true → b ≡ true) → (b ≡ true → a ≡ true) → a ≡ b
tests_agree true b f g = sym (f refl)
tests_agree false true f g = g refl
tests_agree false false f g = refl

module _ (test : ℕ → Bool) where
  pub some_below_lem : (n : ℕ) → some_below n test ≡ true → (i : ℕ) × (i < n) × (test i ≡ true)
  unfolding some_below
  some_below_lem zero h = absurd (false≢true h)
  some_below_lem (suc n) h =
      elim (either (some_below n test) (test n) h) [
        | inl d ↦ let (i, below, e) = some_below_lem n d in (i, omega arith, e)
        | inr e ↦ (n, omega arith, e)
      ]

  pub below-some : (n i : ℕ) → i < n → test i ≡ true → some_below n test ≡ true
  unfolding some_below
  below-some zero i h e = absurd (omega arith)
  below-some (suc n) i h e =
      elim (ℕ_discrete i n) [
        | yes d ↦ let last : test n ≡ true = rw d at e in rw (last, or-true)
        | no d ↦ rw (below-some n i (omega arith) e)
      ]

-- some number below n is this one, and passes the test
pub some_at : (test : ℕ → Bool) (n x : ℕ) → some_below n (λ i. eqb x i && test i) ≡ (ltb x n && test x)
some_at test n x = tests_agree _ _ found there
  where
    found : some_below n (λ i. eqb x i && test i) ≡ true → (ltb x n && test x) ≡ true
    found e =
        let (i, h, d) = some_below_lem (λ i. eqb x i && test i) n e in
        let (same, passes) = (and-eq-true_iff (eqb x i) (test i)).0 d in
        rw (eqb-true x i same, lt-ltb i n h) passes

    there : (ltb x n && test x) ≡ true → some_below n (λ i. eqb x i && test i) ≡ true
    there e =
        let (h, passes) = (and-eq-true_iff (ltb x n) (test x)).0 e in
        below-some (λ i. eqb x i && test i) n x (ltb-true x n h) (rw (eq-eqb x x refl) passes)

module _ {A : Type 0} (given : ℕ → List A) {a : A} where
  pub over-in : (n : ℕ) → In a (over n given) → (i : ℕ) × (i < n) × In a (given i)
  unfolding over
  over-in zero m = absurd (nil-in m)
  over-in (suc n) m =
      elim (append-in (over n given) m) [ inl j ↦ let (i, h, g) = over-in n j in (i, omega arith, g) | inr g ↦ (n, omega arith, g) ]

  pub in-over : (n i : ℕ) → i < n → In a (given i) → In a (over n given)
  unfolding over
  in-over zero i h m = absurd (omega arith)
  in-over (suc n) i h m =
      elim (ℕ_discrete i n) [ yes e ↦ in_right (over n given) (rw e at m) | no e ↦ in_left (given n) (in-over n i (omega arith) m) ]

module _ (given : ℕ → Words) where
  pub member-over : (u : Word) (n : ℕ) → member u (over n given) ≡ some_below n (λ i. member u (given i))
  unfolding over some_below member
  member-over u zero = refl
  member-over u (suc n) = rw (member-append, member-over u n)

  pub rising-over : ((i : ℕ) → Rising (given i))
      → ((i j : ℕ) (u v : Word) → i < j → member u (given i) ≡ true → member v (given j) ≡ true → before u v ≡ true)
      → (n : ℕ) → Rising (over n given)
  unfolding over
  rising-over r f zero = tt
  rising-over r f (suc n) =
      rising-append (over n given) (given n) (rising-over r f n) (r n)
      (λ u v m g. let (i, h, d) = some_below_lem _ n (rw member-over at m) in f i n u v h d g)

module _ (given : ℕ → ℕ) where
  pub below-greatest : (n i : ℕ) → i < n → given i ≤ greatest n given
  unfolding greatest
  below-greatest zero i h = absurd (omega arith)
  below-greatest (suc n) i h = elim (ℕ_discrete i n) [ yes e ↦ rw e (omega arith) | no e ↦ omega (arith, below-greatest n i (omega arith)) ]

  pub greatest-least : (n top : ℕ) → ((i : ℕ) → i < n → given i ≤ top) → greatest n given ≤ top
  unfolding greatest
  greatest-least zero top f = omega arith
  greatest-least (suc n) top f = omega (arith, greatest-least n top (λ i h. f i (omega arith)), f n (omega arith))

-- what agrees below n
pub below-agree : (n : ℕ) (f g : ℕ → Bool) → ((i : ℕ) → i < n → f i ≡ g i) → some_below n f ≡ some_below n g
unfolding some_below
below-agree = agree-below some_below (λ f g. refl) (λ n f g rest last. rw (rest, last))

pub over_agree : {A : Type 0} (n : ℕ) (f g : ℕ → List A) → ((i : ℕ) → i < n → f i ≡ g i) → over n f ≡ over n g
unfolding over
over_agree = agree-below over (λ f g. refl) (λ n f g rest last. rw (rest, last))

-- sums, and the list of what all of them give
pub total-agree : (n : ℕ) (f g : ℕ → ℕ) → ((i : ℕ) → i < n → f i ≡ g i) → total n f ≡ total n g
unfolding total
total-agree = agree-below total (λ f g. refl) (λ n f g rest last. rw (rest, last))

-- where only one number gives another, the sums differ by that one
pub total-but-one : (n i : ℕ) (f g : ℕ → ℕ) → i < n → ((j : ℕ) → (j ≡ i → ⊥) → f j ≡ g j) → total n f + g i ≡ total n g + f i
unfolding total
total-but-one zero i f g h same = absurd (omega arith)
total-but-one (suc n) i f g h same =
    elim (ℕ_discrete i n) [
      | yes e ↦ rw e (omega (arith, total-agree n f g (λ j below. same j (λ d. omega arith))))
      | no e ↦ omega (arith, total-but-one n i f g (omega arith) same, same n (λ d. e (sym d)))
    ]

module _ (given : ℕ → ℕ) where
  pub total-most : (most n : ℕ) → ((i : ℕ) → given i ≤ most) → total n given ≤ n * most
  unfolding total
  total-most most zero h = omega arith
  total-most most (suc n) h = omega (arith, total-most most n h, h n)

  -- what is given is given at some number
  pub total-some : (n : ℕ) → 0 < total n given → (i : ℕ) × (i < n) × (0 < given i)
  unfolding total
  total-some zero h = absurd (omega arith)
  total-some (suc n) h =
      elim (dec_lt 0 (given n)) [
        | yes some ↦ (n, omega arith, some)
        | no none ↦ let (i, below, some) = total-some n (omega arith) in (i, omega arith, some)
      ]

  pub total-more : (n k : ℕ) → n ≤ k → total n given ≤ total k given
  unfolding total
  total-more n zero h = let e : n ≡ 0 = omega arith in rw e (omega arith)
  total-more n (suc k) h =
      elim (ℕ_discrete n (suc k)) [ yes e ↦ rw e (omega arith) | no e ↦ omega (arith, total-more n k (omega arith)) ]

  pub total-one : (n i : ℕ) → i < n → total i given + given i ≤ total n given
  unfolding total
  total-one n i h = total-more (suc i) n h

  pub total-skip : (n k : ℕ) → n ≤ k → ((i : ℕ) → n ≤ i → i < k → given i ≡ 0) → total k given ≡ total n given
  unfolding total
  total-skip n zero h f = let e : n ≡ 0 = omega arith in rw e
  total-skip n (suc k) h f =
      elim (ℕ_discrete n (suc k)) [
        | yes e ↦ rw e
        | no e ↦ omega (arith, total-skip n k (omega arith) (λ i low below. f i low (omega arith)), f k (omega arith) (omega arith))
      ]

module _ {A : Type 0} (given : ℕ → List A) where
  pub length_over : (n : ℕ) → length (over n given) ≡ total n (λ i. length (given i))
  unfolding over total
  length_over zero = refl
  length_over (suc n) = rw (length-append, length_over n)

  pub over-at : (n i j : ℕ) (d : A) → i < n → j < length (given i)
      → get_or (over n given) (total i (λ k. length (given k)) + j) d ≡ get_or (given i) j d
  unfolding over
  over-at zero i j d h below = absurd (omega arith)
  over-at (suc n) i j d h below =
      elim (ℕ_discrete i n) [
        | yes e ↦ rw (e, ← length_over n) (get_or-append-add (over n given) (given n) j d)
        | no e ↦
            get_or-append (over n given) (given n) d _ (rw length_over (omega (arith, total-one (λ k. length (given k)) n i (omega arith))))
            ∙ over-at n i j d (omega arith) below
      ]

  pub keep-over : (test : A → Bool) (n : ℕ) → keep test (over n given) ≡ over n (λ i. keep test (given i))
  unfolding over keep
  keep-over test zero = refl
  keep-over test (suc n) = rw (keep_append, keep-over test n)

module _ {A : Type 0} (given : ℕ → A) where
  pub length-each : (n : ℕ) → length (each n given) ≡ n
  unfolding over
  length-each zero = refl
  length-each (suc n) = simp (length-append, length-each n) (omega arith)

  pub each_at : (n i : ℕ) (d : A) → i < n → get_or (each n given) i d ≡ given i
  unfolding over
  each_at zero i d h = absurd (omega arith)
  each_at (suc n) i d h =
      elim (ℕ_discrete i n) [
        | yes e ↦ rw e (get_or_at (each n given) (given n) [] d n (length-each n))
        | no e ↦ get_or-append (each n given) (given n ∷ []) d i (rw (length-each n) (omega arith)) ∙ each_at n i d (omega arith)
      ]

  pub each-given : (P : A → Type 0) (n : ℕ) → ((i : ℕ) → i < n → P (given i)) → Each P (each n given)
  unfolding over
  each-given P zero f = tt
  each-given P (suc n) f = each_append P (each n given) (given n ∷ []) (each-given P n (λ i h. f i (omega arith))) (f n (omega arith), tt)
