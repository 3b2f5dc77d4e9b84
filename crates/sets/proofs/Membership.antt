-- Membership in a list as a proposition, under short names: `here` and `there` say where the thing stands. What `keep` keeps is what was
-- there and passes the test, so it is apart if the list was, and it goes part by part. What is said of each thing is said of what stands in the
-- list, and what is said of some thing is said of one that stands there; and what stands in a list stands at a number. In the names, `in-X`
-- leads into X and `X-in` out of it. Assumes nothing.
use Prim.Native.Nat.{ℕ, zero, suc, ◌<◌}
use native.Mathlib.Omega.{arith}
use mathlib.Core.Path.{◌≡◌, refl, ap, sym}
use mathlib.Core.Bool.{Bool, true, false, cond, ◌||◌, false≢true, or-true}
use mathlib.Core.Logic.{◌⊎◌, inl, inr}
use mathlib.Core.List.{List, [], ◌∷◌, ◌++◌, map}
pub use mathlib.Core.List.Memᴰ.{cast as in-cast}
pub use mathlib.Core.List.Memᴰ.{head as here}
pub use mathlib.Core.List.Memᴰ.{tail as there}
pub use mathlib.Core.List.{Memᴰ as In}
pub use mathlib.Core.List.Memᴰ.{append_cases as append-in}
pub use mathlib.Core.List.Memᴰ.{cases_cons as cons-in}
pub use mathlib.Core.List.Memᴰ.{not-nil as nil-in}
pub use mathlib.Core.List.Memᴰ.{append_left as in_left}
pub use mathlib.Core.List.Memᴰ.{append_right as in_right}
use lib.Dec.{eqb}
use lib.ListN.{length, get_or}
use borrow.Author.Tests.{eqb-true, eq-eqb}
use Rattle.letters.specs.Each.{Each, some}
use Rattle.sets.specs.Sets.{keep}
use Rattle.sets.specs.Automata.{among}

-- no thing twice
abbrev pub Apart : {A : Type 0} → List A → Type 0
Apart [] = Unit {0}
Apart (a ∷ l) = (In a l → ⊥) × Apart l

-- of two tests one passes; and a test that cannot pass fails
pub either : (a b : Bool) → (a || b) ≡ true → (a ≡ true) ⊎ (b ≡ true)
either true b h = inl refl
either false b h = inr h

pub fails : (a : Bool) → (a ≡ true → ⊥) → a ≡ false
fails true f = absurd (f refl)
fails false f = refl

pub listed_in : (s : ℕ) (ns : List ℕ) → among s ns ≡ true → In s ns
unfolding among
listed_in s [] e = absurd (false≢true e)
listed_in s (n ∷ ns) e = elim (either (eqb s n) (among s ns) e) [ inl h ↦ here (eqb-true s n h) | inr h ↦ there (listed_in s ns h) ]

pub in-listed : {s : ℕ} {ns : List ℕ} → In s ns → among s ns ≡ true
unfolding among
in-listed {s} (here {x = n} e) = rw (eq-eqb s n e)
in-listed (there i) = rw (in-listed i, or-true)

pub not_listed : (s : ℕ) (ns : List ℕ) → (In s ns → ⊥) → among s ns ≡ false
not_listed s ns none = fails (among s ns) (λ e. none (listed_in s ns e))

-- what stands in a list stands at a number
module _ {A : Type 0} (d : A) where
  pub get_or-in : (l : List A) (m : ℕ) → m < length l → In (get_or l m d) l
  get_or-in [] m h = absurd (omega arith)
  get_or-in (a ∷ l) zero h = here refl
  get_or-in (a ∷ l) (suc m) h = there (get_or-in l m (omega arith))

  pub in-get_or : {a : A} {l : List A} → In a l → (m : ℕ) × (m < length l) × (get_or l m d ≡ a)
  in-get_or (here e) = (0, omega arith, sym e)
  in-get_or (there i) = let (m, h, e) = in-get_or i in (suc m, omega arith, e)

module _ {A B : Type 0} (f : A → B) where
  pub in_map : {a : A} {l : List A} → In a l → In (f a) (map f l)
  in_map (here e) = here (ap f e)
  in_map (there i) = there (in_map i)

  pub map-in : (l : List A) {b : B} → In b (map f l) → (a : A) × In a l × (b ≡ f a)
  map-in [] i = absurd (nil-in i)
  map-in (a ∷ l) i = elim (cons-in i) [ inl e ↦ (a, here refl, e) | inr j ↦ let (c, g, e) = map-in l j in (c, there g, e) ]

-- what is said of each thing of a list, or of some thing
pub each_in : {A : Type 0} (P : A → Type 0) {a : A} {l : List A} → Each P l → In a l → P a
each_in P h (here e) = rw e h.0
each_in P h (there i) = each_in P h.1 i

pub in-each : {A : Type 0} (P : A → Type 0) (l : List A) → ((a : A) → In a l → P a) → Each P l
in-each P [] f = tt
in-each P (a ∷ l) f = (f a (here refl), in-each P l (λ b i. f b (there i)))

pub each_map : {A B : Type 0} (P : B → Type 0) (f : A → B) (l : List A) → Each (λ a. P (f a)) l → Each P (map f l)
each_map P f [] h = tt
each_map P f (a ∷ l) h = (h.0, each_map P f l h.1)

pub some-agree : {A : Type 0} (P : A → Type 0) (f g : A → Bool) → ((a : A) → P a → f a ≡ g a) → (l : List A) → Each P l → some f l ≡ some g l
some-agree P f g e [] h = refl
some-agree P f g e (a ∷ l) h = rw (e a h.0, some-agree P f g e l h.1)

pub map-agree : {A B : Type 0} (P : A → Type 0) (f g : A → B) → ((a : A) → P a → f a ≡ g a) → (l : List A) → Each P l → map f l ≡ map g l
map-agree P f g e [] h = refl
map-agree P f g e (a ∷ l) h = rw (e a h.0, map-agree P f g e l h.1)

pub each_append : {A : Type 0} (P : A → Type 0) (k l : List A) → Each P k → Each P l → Each P (k ++ l)
each_append P [] l h g = g
each_append P (a ∷ k) l h g = (h.0, each_append P k l h.1 g)

module _ {A : Type 0} (test : A → Bool) where
  pub some_in : (l : List A) → some test l ≡ true → (a : A) × In a l × (test a ≡ true)
  some_in [] h = absurd (false≢true h)
  some_in (b ∷ l) h =
      elim (either (test b) (some test l) h) [ inl e ↦ (b, here refl, e) | inr g ↦ let (a, i, e) = some_in l g in (a, there i, e) ]

  pub in_some : {a : A} {l : List A} → In a l → test a ≡ true → some test l ≡ true
  in_some (here e) h = rw (← e, h)
  in_some (there i) h = rw (in_some i h, or-true)

  pub keep-in : (l : List A) {a : A} → In a (keep test l) → In a l × (test a ≡ true)
  unfolding keep
  keep-in [] i = absurd (nil-in i)
  keep-in (b ∷ l) {a} i = go (λ j. keep-in l j) (test b) refl i
    where
      go : (In a (keep test l) → In a l × (test a ≡ true)) → (t : Bool) → test b ≡ t → In a (cond t (b ∷ keep test l) (keep test l))
          → In a (b ∷ l) × (test a ≡ true)
      go rest true e i = elim (cons-in i) [ inl d ↦ (here d, rw d e) | inr j ↦ (there (rest j).0, (rest j).1) ]
      go rest false e i = (there (rest i).0, (rest i).1)

  pub in-keep : {a : A} {l : List A} → In a l → test a ≡ true → In a (keep test l)
  unfolding keep
  in-keep (here d) h = rw (rw d at h) (here d)
  in-keep {a} (there {x = b} {xs = l} i) h =
      let rest = in-keep i h in
      elim (test b) as (λ t. In a (cond t (b ∷ keep test l) (keep test l))) [ true ↦ there rest | false ↦ rest ]

  pub keep_append : (k l : List A) → keep test (k ++ l) ≡ keep test k ++ keep test l
  unfolding keep
  keep_append [] l = refl
  keep_append (a ∷ k) l =
      let rest = keep_append k l in
      elim (test a) as (λ t. cond t (a ∷ keep test (k ++ l)) (keep test (k ++ l)) ≡ cond t (a ∷ keep test k) (keep test k) ++ keep test l) [
        | true ↦ cc
        | false ↦ rest
      ]

  pub keep_apart : (l : List A) → Apart l → Apart (keep test l)
  unfolding keep
  keep_apart [] h = tt
  keep_apart (a ∷ l) h =
      let rest = keep_apart l h.1 in
      elim (test a) as (λ t. Apart (cond t (a ∷ keep test l) (keep test l))) [ true ↦ (λ i. h.0 (keep-in l i).0, rest) | false ↦ rest ]
