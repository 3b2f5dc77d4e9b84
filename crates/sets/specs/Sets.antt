-- Plain sets of words: strictly rising lists. Assumes nothing.
use Prim.Native.Nat.{Ordering}
use Rattle.std.specs.Prelude.{◌≡◌, Bool, true, false, not, cond, ◌||◌, List, [], ◌∷◌}
use Rattle.letters.specs.Each.{Each}
use Rattle.letters.specs.Words.{Word, Spelled, order, before, same}

-- a list of words; a set where it rises
abbrev pub Words : Type 0
Words = List Word

-- the list has a word
abbrev pub Filled : Words → Type 0
Filled [] = ⊥
Filled (w ∷ ws) = Unit {0}

-- is the word in the list?
unfoldable pub member : Word → Words → Bool
member w [] = false
member w (v ∷ vs) = same w v || member w vs

-- w stands before every word of the list
abbrev pub Above : Word → Words → Type 0
Above w l = Each (λ v. before w v ≡ true) l

-- each word stands before all later ones
abbrev pub Rising : Words → Type 0
Rising [] = Unit {0}
Rising (w ∷ ws) = Above w ws × Rising ws

-- a plain set of words: a rising list of words of letters
pub record Plain (l : Words) : Type 0 where
  pub rising : Rising l
  pub spelled : Each Spelled l

-- the parts of a list that pass a test, in their order
unfoldable pub keep : {A : Type 0} → (A → Bool) → List A → List A
keep test [] = []
keep test (a ∷ l) = cond (test a) (a ∷ keep test l) (keep test l)

-- the set with w, in its place: before v, at v, or among what stands behind v
abbrev pub put : Ordering → Word → Word → Words → Words → Words
put Ordering.lt w v vs more = w ∷ v ∷ vs
put Ordering.eq w v vs more = v ∷ vs
put Ordering.gt w v vs more = v ∷ more

unfoldable pub insert : Word → Words → Words
insert w [] = w ∷ []
insert w (v ∷ vs) = put (order w v) w v vs (insert w vs)

-- the set without w
unfoldable pub delete : Word → Words → Words
delete w l = keep (λ v. not (same v w)) l

-- "1 both together"
unfoldable pub both : Words → Words → Words
both [] l = l
both (v ∷ vs) l = insert v (both vs l)

-- "2 common names"
unfoldable pub common : Words → Words → Words
common k l = keep (λ v. member v l) k

-- "3 names of a that b has not"
unfoldable pub without : Words → Words → Words
without k l = keep (λ v. not (member v l)) k
