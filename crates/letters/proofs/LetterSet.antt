-- What the number of ones and the trailing zeros of a set of letters mean. The sum is over falling letters, so a law about all letters goes by
-- its last one; the trailing zeros go from the first letter on, so for them the sum is taken apart at letter 0. Assumes nothing.
use Prim.Native.Nat.{ℕ, zero, suc, ◌+◌, ◌*◌, ◌/◌, ◌%◌, ◌^◌, ◌≤◌, ◌<◌}
use native.Mathlib.Nat.{pow-suc, not-suc-le-zero}
use native.Mathlib.Omega.{arith}
use native.Mathlib.Decide.{ℕ_discrete}
use mathlib.Core.Path.{◌≡◌, refl, sym, ◌∙◌}
use mathlib.Core.Bool.{Bool, true, false, not, ◌&&◌}
use lib.Dec.{eqb}
use lib.Pow.{pow_pos}
use lib.Count.{ones, ones_in, ones_cat, count_trailing_zeros}
use borrow.Author.Tests.{eq-eqb, ne_eqb}
use Rattle.letters.specs.LetterSet.{flag, sum_of, count_of}
use Rattle.letters.proofs.Below.{agree-below}

pub flag-le : (b : Bool) → flag b ≤ 1
flag-le true = omega arith
flag-le false = omega arith

-- a bit more or not, above the others
pub sum_lt : (n : ℕ) (test : ℕ → Bool) → sum_of n test < 2 ^ n
unfolding sum_of
sum_lt zero test = omega arith
sum_lt (suc n) test = go (test n) (sum_lt n test)
  where
    go : (b : Bool) → sum_of n test < 2 ^ n → flag b * 2 ^ n + sum_of n test < 2 ^ suc n
    go true h = omega (arith, pow-suc 2 n)
    go false h = omega (arith, pow-suc 2 n)

ones-flag : (b : Bool) → ones (flag b) ≡ flag b
unfolding ones ones_in
ones-flag true = refl
ones-flag false = refl

-- "count of ones gives the answer"
pub ones-sum : (n : ℕ) (test : ℕ → Bool) → ones (sum_of n test) ≡ count_of n test
unfolding sum_of count_of ones ones_in
ones-sum zero test = refl
ones-sum (suc n) test = ones_cat n (flag (test n)) (sum_of n test) (sum_lt n test) ∙ rw (ones-flag, ones-sum n test)

-- tests that agree below n have the same set
pub sum-agree : (n : ℕ) (f g : ℕ → Bool) → ((y : ℕ) → y < n → f y ≡ g y) → sum_of n f ≡ sum_of n g
unfolding sum_of
sum-agree = agree-below sum_of (λ f g. refl) (λ n f g rest last. rw (rest, last))

-- and as many letters
pub count-agree : (n : ℕ) (f g : ℕ → Bool) → ((y : ℕ) → y < n → f y ≡ g y) → count_of n f ≡ count_of n g
unfolding count_of
count-agree = agree-below count_of (λ f g. refl) (λ n f g rest last. rw (rest, last))

-- a letter of the set counts its power
pub letter-le-sum : (n : ℕ) (test : ℕ → Bool) (x : ℕ) → x < n → test x ≡ true → 2 ^ x ≤ sum_of n test
unfolding sum_of
letter-le-sum zero test x h t = absurd (not-suc-le-zero h)
letter-le-sum (suc n) test x h t = elim (ℕ_discrete x n) [
  | yes e ↦ rw (← e, t) (omega arith)
  | no d ↦ let r = letter-le-sum n test x (omega arith) t in omega arith
]

-- the empty set has none, and what has none is the empty set
pub none-sum : (n : ℕ) (test : ℕ → Bool) → ((y : ℕ) → y < n → test y ≡ false) → sum_of n test ≡ 0
unfolding sum_of
none-sum zero test none = refl
none-sum (suc n) test none = rw (none n (omega arith), none-sum n test (λ y h. none y (omega arith))) (omega arith)

pub none-count : (n : ℕ) (test : ℕ → Bool) → ((y : ℕ) → y < n → test y ≡ false) → count_of n test ≡ 0
unfolding ones ones_in
none-count n test none = sym (ones-sum n test) ∙ rw (none-sum n test none)

-- what passes one test passes the other, so no more pass it
pub count-more : (n : ℕ) (f g : ℕ → Bool) → ((i : ℕ) → f i ≡ true → g i ≡ true) → count_of n f ≤ count_of n g
unfolding count_of
count-more zero f g h = omega arith
count-more (suc n) f g h = go (f n) (g n) (h n) (count-more n f g h)
  where
    go : (a b : Bool) → (a ≡ true → b ≡ true) → count_of n f ≤ count_of n g → flag a + count_of n f ≤ flag b + count_of n g
    go true b e rest = rw (e refl) (omega arith)
    go false b e rest = omega arith

-- no more than there are
pub count_most : (n : ℕ) (test : ℕ → Bool) → count_of n test ≤ n
unfolding count_of
count_most zero test = omega arith
count_most (suc n) test = omega (arith, count_most n test, flag-le (test n))

-- one more at most, where only one number may pass one test and not the other
pub count-but-one : (n : ℕ) (f g : ℕ → Bool) (x : ℕ) → ((y : ℕ) → y < n → (y ≡ x → ⊥) → f y ≡ g y) → count_of n f ≤ suc (count_of n g)
unfolding count_of
count-but-one zero f g x e = omega arith
count-but-one (suc n) f g x e =
    elim (ℕ_discrete n x) [
      | yes d ↦ omega (arith, flag-le (f n), count-agree n f g (λ y h. e y (omega arith) (λ q. omega arith)))
      | no d ↦ rw (e n (omega arith) d) (omega (arith, count-but-one n f g x (λ y h. e y (omega arith))))
    ]

-- all but 0
pub count-positive : (n : ℕ) (test : ℕ → Bool) → 0 < n → test 0 ≡ false → ((y : ℕ) → 0 < y → y < n → test y ≡ true) → suc (count_of n test) ≡ n
unfolding count_of
count-positive zero test h none all = absurd (omega arith)
count-positive (suc zero) test h none all = rw none
count-positive (suc (suc n)) test h none all =
    rw (all (suc n) (omega arith) (omega arith)) (omega (arith, count-positive (suc n) test (omega arith) none (λ y p q. all y p (omega arith))))

pub sum-none : (n : ℕ) (test : ℕ → Bool) → sum_of n test ≡ 0 → (y : ℕ) → y < n → test y ≡ false
sum-none n test e y h = go (test y) refl
  where
    go : (b : Bool) → test y ≡ b → b ≡ false
    go true t = absurd (omega (arith, letter-le-sum n test y h t, pow_pos y))
    go false t = refl

-- the set without one of its letters
abbrev pub except : ℕ → (ℕ → Bool) → ℕ → Bool
except x test y = not (eqb y x) && test y

sum_below : (n : ℕ) (test : ℕ → Bool) → sum_of n (except n test) ≡ sum_of n test
sum_below n test = sum-agree n (except n test) test (λ y h. rw (ne_eqb y n (omega arith)))

pub sum-except : (n : ℕ) (test : ℕ → Bool) (x : ℕ) → x < n → test x ≡ true → sum_of n test ≡ 2 ^ x + sum_of n (except x test)
unfolding sum_of
sum-except zero test x h t = absurd (not-suc-le-zero h)
sum-except (suc n) test x h t = elim (ℕ_discrete x n) [
  | yes e ↦ let last : test n ≡ true = rw e at t in rw (e, last, eq-eqb n n refl, sum_below n test) (omega arith)
  | no d ↦ let rest = sum-except n test x (omega arith) t in rw (ne_eqb n x (λ q. d (sym q))) (omega arith)
]

-- the sum, taken apart at letter 0
sum_low : (n : ℕ) (test : ℕ → Bool) → sum_of (suc n) test ≡ flag (test 0) + sum_of n (λ y. test (suc y)) * 2
unfolding sum_of
sum_low zero test = omega arith
sum_low (suc n) test = go (test (suc n)) (sum_low n test)
  where
    go : (b : Bool) → sum_of (suc n) test ≡ flag (test 0) + sum_of n (λ y. test (suc y)) * 2
        → flag b * 2 ^ suc n + sum_of (suc n) test ≡ flag (test 0) + (flag b * 2 ^ n + sum_of n (λ y. test (suc y))) * 2
    go true e = omega (arith, pow-suc 2 n)
    go false e = omega arith

-- x is the first letter below n that passes the test
pub record First (n : ℕ) (test : ℕ → Bool) (x : ℕ) : Type 0 where
  pub below : x < n
  pub passes : test x ≡ true
  pub least : (y : ℕ) → y < x → test y ≡ false

-- letter 0 is the first, or the first of the rest is, one place on
first-low : (n k : ℕ) (test : ℕ → Bool) (set rest : ℕ) → (0 < rest → First n (λ y. test (suc y)) (count_trailing_zeros k rest)) → 0 < set
    → (b : Bool) → test 0 ≡ b → set ≡ flag b + rest * 2 → First (suc n) test (count_trailing_zeros (suc k) set)
unfolding count_trailing_zeros
first-low n k test set rest later p true t e =
    let odd : set % 2 ≡ 1 = omega arith in
    rw odd (record { below = omega arith; passes = t; least = λ y h. absurd (not-suc-le-zero h) })
first-low n k test set rest later p false t e =
    let even : set % 2 ≡ 0 = omega arith in
    let half : set / 2 ≡ rest = omega arith in
    let r = later (omega arith) in
    rw (even, half)
    (record {
      below = omega (arith, r.below);
      passes = r.passes;
      least = λ y. elim y as (λ z. z < suc (count_trailing_zeros k rest) → test z ≡ false) [ zero ↦ λ h. t | suc z ↦ λ h. r.least z (omega arith) ];
    })

-- "trailing zeros the first letter"
pub first-of-sum : (n k : ℕ) (test : ℕ → Bool) → n ≤ k → 0 < sum_of n test → First n test (count_trailing_zeros k (sum_of n test))
unfolding sum_of
first-of-sum zero k test h p = absurd (not-suc-le-zero p)
first-of-sum (suc n) zero test h p = absurd (not-suc-le-zero h)
first-of-sum (suc n) (suc k) test h p =
    first-low n k test _ _ (first-of-sum n k (λ y. test (suc y)) (omega arith)) p (test 0) refl (sum_low n test)
