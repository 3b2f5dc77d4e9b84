-- The first refusal of a call that applies is given, and 0 where none applies: every refusal has a number above 0. "Of those that apply to a call,
-- the lowest is given": where a call's refusals stand in rising order the first is the lowest. That they do, and that they are numbered, is a
-- test that computes, for each call. Assumes nothing.
use Prim.Native.Nat.{ℕ, ◌≤◌, ◌<◌}
use mathlib.Core.Path.{◌≡◌, refl, sym, ◌∙◌, ap}
use mathlib.Core.Bool.{Bool, true, false, cond, not, ◌&&◌, false≢true, and-eq-true_iff}
use mathlib.Core.Logic.{◌⊎◌, inl, inr}
use mathlib.Core.List.{List, [], ◌∷◌, ◌++◌}
use native.Mathlib.Omega.{arith}
use borrow.Author.Tests.{leb-true, leb-false, lt-ltb, le-ltb}
use lib.Dec.{leb, ltb}
use Rattle.letters.specs.Each.{Each}
use Rattle.sets.proofs.Membership.{In, nil-in, cons-in, each_in}
use Rattle.model.specs.Lists.{last_mission, missions}
use Rattle.model.specs.Call.{Call, Book}
use Rattle.model.specs.Call.Call.{empty, check, ask, next, add, remove, clear, load, load_two, combine, count, rank, nth, write, used}
use Rattle.model.specs.Refusals.{Refusal, given}
use Rattle.model.specs.Run.{rule, in_rising_order}

-- none of the refusals is numbered below n, and each is numbered no higher than those behind it
abbrev orderly : ℕ → List Refusal → Bool
orderly n [] = true
orderly n (r ∷ rs) = leb n r.number && orderly r.number rs

rule-orderly : (b : Book) (c : Call) → in_rising_order c ≡ true → orderly 1 (rule b c).refusals ≡ true
rule-orderly b empty rising = refl
rule-orderly b check rising = refl
rule-orderly b (ask m name) rising = refl
rule-orderly b (next m prefix) rising = refl
rule-orderly b (add m name) rising = refl
rule-orderly b (remove m name) rising = refl
rule-orderly b (clear m) rising = refl
rule-orderly b (load m bytes) rising = refl
rule-orderly b (load_two m first second) rising = refl
rule-orderly b (combine op x y z) rising = refl
rule-orderly b (count m) rising = refl
rule-orderly b (rank m name) rising = refl
rule-orderly b (nth m n size) rising = refl
rule-orderly b used rising = refl
rule-orderly b (write m size) rising = absurd (false≢true rising)

-- each is numbered above 0
abbrev numbered : List Refusal → Bool
numbered [] = true
numbered (r ∷ rs) = leb 1 r.number && numbered rs

rule-numbered : (b : Book) (c : Call) → numbered (rule b c).refusals ≡ true
rule-numbered b empty = refl
rule-numbered b check = refl
rule-numbered b (ask m name) = refl
rule-numbered b (next m prefix) = refl
rule-numbered b (add m name) = refl
rule-numbered b (remove m name) = refl
rule-numbered b (clear m) = refl
rule-numbered b (load m bytes) = refl
rule-numbered b (load_two m first second) = refl
rule-numbered b (combine op x y z) = refl
rule-numbered b (count m) = refl
rule-numbered b (rank m name) = refl
rule-numbered b (nth m n size) = refl
rule-numbered b (write m size) = refl
rule-numbered b used = refl

-- the refusal that is given: it applies, and none before it does
pub record First (n : ℕ) (rs : List Refusal) : Type 0 where
  pub before : List Refusal
  pub refusal : Refusal
  pub behind : List Refusal
  pub place : rs ≡ before ++ refusal ∷ behind
  pub earlier : Each (λ r. r.applies ≡ false) before
  pub applies : refusal.applies ≡ true
  pub number : refusal.number ≡ n

first_of : (rs : List Refusal) → 0 < given rs → First (given rs) rs
first_of [] h = absurd (omega arith)
first_of (q ∷ rs) h = go (first_of rs) q.applies refl h
  where
    go : (0 < given rs → First (given rs) rs) → (t : Bool) → q.applies ≡ t → 0 < cond t q.number (given rs)
        → First (cond t q.number (given rs)) (q ∷ rs)
    go rest true e g =
        record { before = []; refusal = q; behind = rs; place = refl; earlier = tt; applies = e; number = refl }
    go rest false e g =
        let f = rest g in
        record {
          before = q ∷ f.before;
          refusal = f.refusal;
          behind = f.behind;
          place = ap (λ (l : List Refusal). q ∷ l) f.place;
          earlier = (e, f.earlier);
          applies = f.applies;
          number = f.number;
        }

given-lowest : (n : ℕ) (rs : List Refusal) → orderly n rs ≡ true → (r : Refusal) → In r rs → r.applies ≡ true
    → (n ≤ given rs) × (given rs ≤ r.number)
given-lowest n [] o r i f = absurd (nil-in i)
given-lowest n (q ∷ rs) o r i f =
    let (first, later) = (and-eq-true_iff (leb n q.number) (orderly q.number rs)).0 o in
    go (leb-true n q.number first) (λ j. given-lowest q.number rs later r j f) (cons-in i) q.applies refl
  where
    go : n ≤ q.number → (In r rs → (q.number ≤ given rs) × (given rs ≤ r.number)) → (r ≡ q) ⊎ In r rs → (t : Bool) → q.applies ≡ t
        → (n ≤ cond t q.number (given rs)) × (cond t q.number (given rs) ≤ r.number)
    go h rest (inl e) true a = (h, rw e (omega arith))
    go h rest (inl e) false a = absurd (false≢true (sym a ∙ rw (← e) f))
    go h rest (inr j) true a = let below = rest j in (h, omega arith)
    go h rest (inr j) false a = let below = rest j in (omega arith, below.1)

-- where none is given, none applies
pub given-none : (rs : List Refusal) → Each (λ r. r.applies ≡ true → 0 < r.number) rs → given rs ≡ 0 → Each (λ r. r.applies ≡ false) rs
given-none [] numbered none = tt
given-none (r ∷ rs) (some, numbered) none = go (given-none rs numbered) r.applies refl none
  where
    go : (given rs ≡ 0 → Each (λ r. r.applies ≡ false) rs) → (t : Bool) → r.applies ≡ t → cond t r.number (given rs) ≡ 0
        → Each (λ r. r.applies ≡ false) (r ∷ rs)
    go rest true e d = absurd (omega (arith, some e))
    go rest false e d = (e, rest d)

each-numbered : (rs : List Refusal) → numbered rs ≡ true → Each (λ r. r.applies ≡ true → 0 < r.number) rs
each-numbered [] e = tt
each-numbered (r ∷ rs) e =
    let (one, more) = (and-eq-true_iff (leb 1 r.number) (numbered rs)).0 e in
    ((λ _. leb-true 1 r.number one), each-numbered rs more)

-- of any call: the first that applies is given, and 0 where none does
pub record FirstGiven (n : ℕ) (rs : List Refusal) : Type 0 where
  pub none : n ≡ 0 → Each (λ r. r.applies ≡ false) rs
  pub first : 0 < n → First n rs

pub first-given : (b : Book) (c : Call) → FirstGiven (given (rule b c).refusals) (rule b c).refusals
first-given b c =
    let rs = (rule b c).refusals in
    record { none = given-none rs (each-numbered rs (rule-numbered b c)); first = first_of rs }

-- where nothing refuses a call, none of its refusals applies
pub none-applies : (b : Book) (c : Call) (r : Refusal) → In r (rule b c).refusals → given (rule b c).refusals ≡ 0 → r.applies ≡ false
none-applies b c r i none = each_in (λ r. r.applies ≡ false) ((first-given b c).none none) i

-- of a call whose refusals rise: the number is that of a refusal that applies, and of no lower one
pub record Lowest (n : ℕ) (rs : List Refusal) : Type 0 where
  pub given : FirstGiven n rs
  pub lowest : (r : Refusal) → In r rs → r.applies ≡ true → (0 < n) × (n ≤ r.number)

pub lowest-given : (b : Book) (c : Call) → in_rising_order c ≡ true → Lowest (given (rule b c).refusals) (rule b c).refusals
lowest-given b c rising =
    record { given = first-given b c; lowest = given-lowest 1 (rule b c).refusals (rule-orderly b c rising) }

-- what the first ones give is given, whatever stands behind them
pub given-first : (rs more : List Refusal) → 0 < given rs → given (rs ++ more) ≡ given rs
given-first [] more some = absurd (omega arith)
given-first (r ∷ rs) more some = go (given-first rs more) r.applies some
  where
    go : (0 < given rs → given (rs ++ more) ≡ given rs) → (t : Bool) → 0 < cond t r.number (given rs)
        → cond t r.number (given (rs ++ more)) ≡ cond t r.number (given rs)
    go rest true d = refl
    go rest false d = rest d

-- "over" and "at most" are each the other's opposite
pub over-most : (a b : ℕ) → ltb b a ≡ not (leb a b)
over-most a b = go (leb a b) refl
  where
    go : (t : Bool) → leb a b ≡ t → ltb b a ≡ not t
    go true e = le-ltb b a (leb-true a b e)
    go false e = lt-ltb b a (leb-false a b e)

-- "a mission number over 15"
pub mission-over : (m : ℕ) → missions ≤ m → ltb last_mission m ≡ true
mission-over m h = lt-ltb last_mission m h

pub mission-under : (m : ℕ) → m < missions → ltb last_mission m ≡ false
mission-under m h = le-ltb last_mission m (omega arith)
