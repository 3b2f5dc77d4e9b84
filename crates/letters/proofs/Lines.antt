-- The lines of a list, from a place on: the name there, its end, and what stands behind it. The laws are shown of a whole list, byte by
-- byte up to the first line end, and then carried to a place. Assumes nothing.
use Prim.Native.Nat.{ℕ, suc, ◌+◌, ◌-◌, ◌≤◌, ◌<◌}
use mathlib.Core.Path.{◌≡◌, refl, ap}
use mathlib.Core.Bool.{Bool, true, false, cond, ◌&&◌, and-eq-true_iff}
use mathlib.Core.List.{List, [], ◌∷◌, map}
use native.Mathlib.Nat.{add-zero, add-suc, add-sub_cancel_left}
use native.Mathlib.Numerals.{add-one}
use native.Mathlib.Omega.{arith}
use borrow.Author.Tests.{ne_eqb, leb-true, lt-ltb, le-ltb}
use lib.Dec.{eqb, leb, ltb, leb-suc-suc}
use lib.ListN.{length, take, drop, get_or, drop_of_length-le, length-take, length-drop}
use lib.Seq.{drop-cons, drop-drop}
use Rattle.letters.specs.Each.{every, Each}
use Rattle.letters.specs.Letters.{line_end}
use Rattle.letters.specs.Words.{Word, word_of, before}
use Rattle.letters.specs.Names.{is_name}
use Rattle.letters.specs.Lists.{longest_list, up_to_end, name_at, name_end, on_first, lines_of, ended, rises, names_of, is_list}
use Rattle.letters.proofs.Tests.{by-test}

-- ---- a whole list

-- what stands behind the first line and its end
abbrev behind : List ℕ → List ℕ
behind bytes = drop (suc (length (up_to_end bytes))) bytes

-- a list that is not empty begins with a line end, is one other byte, or is another byte before such a list
by-line : (P : List ℕ → Type 0)
    → ((b : ℕ) (bytes : List ℕ) → eqb b line_end ≡ true → P (b ∷ bytes))
    → ((b : ℕ) → eqb b line_end ≡ false → P (b ∷ []))
    → ((b c : ℕ) (bytes : List ℕ) → eqb b line_end ≡ false → P (c ∷ bytes) → P (b ∷ c ∷ bytes))
    → (b : ℕ) (bytes : List ℕ) → P (b ∷ bytes)
by-line P stop one more b [] = by-test (eqb b line_end) (stop b []) (one b)
by-line P stop one more b (c ∷ bytes) =
    by-test (eqb b line_end) (stop b (c ∷ bytes)) (λ e. more b c bytes e (by-line P stop one more c bytes))

take-up_to_end : (bytes : List ℕ) → take (length (up_to_end bytes)) bytes ≡ up_to_end bytes
unfolding up_to_end
take-up_to_end [] = refl
take-up_to_end (b ∷ bytes) =
    by-line (λ l. take (length (up_to_end l)) l ≡ up_to_end l) (λ b l e. rw e) (λ b e. rw e) (λ b c l e ih. rw (e, ih)) b bytes

length-up_to_end : (bytes : List ℕ) → length (up_to_end bytes) ≤ length bytes
length-up_to_end bytes = omega (arith, simp length-take at (ap length (take-up_to_end bytes)))

lines-first : (b : ℕ) (bytes : List ℕ) → lines_of (b ∷ bytes) ≡ up_to_end (b ∷ bytes) ∷ lines_of (behind (b ∷ bytes))
unfolding lines_of up_to_end
lines-first =
    by-line (λ l. lines_of l ≡ up_to_end l ∷ lines_of (behind l)) (λ b l e. rw e) (λ b e. rw e) (λ b c l e ih. rw (e, ih))

ended-behind : (b : ℕ) (bytes : List ℕ) → eqb b line_end ≡ true → ended (b ∷ bytes) ≡ ended bytes
unfolding ended
ended-behind b [] e = e
ended-behind b (c ∷ bytes) e = refl

ended-first : (b : ℕ) (bytes : List ℕ)
    → ended (b ∷ bytes) ≡ (ltb (length (up_to_end (b ∷ bytes))) (length (b ∷ bytes)) && ended (behind (b ∷ bytes)))
unfolding ended up_to_end
ended-first =
    by-line (λ l. ended l ≡ (ltb (length (up_to_end l)) (length l) && ended (behind l)))
    (λ b l e. rw (e, lt-ltb 0 (suc (length l)) (omega arith)) (ended-behind b l e))
    (λ b e. rw e)
    (λ b c l e ih. rw (e, leb-suc-suc) ih)

-- there are no more lines than bytes
pub lines-few : (bytes : List ℕ) → length (lines_of bytes) ≤ length bytes
unfolding lines_of
lines-few [] = omega arith
lines-few (b ∷ bytes) = go (eqb b line_end) (lines_of bytes) (lines-few bytes)
  where
    go : (end : Bool) (lines : List (List ℕ)) → length lines ≤ length bytes → length (cond end ([] ∷ lines) (on_first b lines)) ≤ suc (length bytes)
    go true lines few = omega arith
    go false [] few = omega arith
    go false (line ∷ lines) few = omega arith

-- what holds of every name holds of every word of a list of names
pub names-each : (P : Word → Type 0) → ((bytes : List ℕ) → is_name bytes ≡ true → P (word_of bytes))
    → (lines : List (List ℕ)) → every is_name lines ≡ true → Each P (map word_of lines)
names-each P f [] h = tt
names-each P f (line ∷ lines) h =
    let (one, more) = (and-eq-true_iff (is_name line) (every is_name lines)).0 h in
    (f line one, names-each P f lines more)

-- what is known of a list for load
pub list-parts : (bytes : List ℕ) → is_list bytes ≡ true
    → (length bytes ≤ longest_list) × (ended bytes ≡ true) × (every is_name (lines_of bytes) ≡ true) × (rises (names_of bytes) ≡ true)
unfolding is_list
list-parts bytes e =
    let (short, rest) = (and-eq-true_iff (leb (length bytes) longest_list) _).0 e in
    let (ended, more) = (and-eq-true_iff (ended bytes) _).0 rest in
    let (named, rising) = (and-eq-true_iff (every is_name (lines_of bytes)) _).0 more in
    (leb-true _ _ short, ended, named, rising)

-- ---- the name at a place of a list

pub name-part : (s : List ℕ) (at : ℕ) → take (name_end s at - at) (drop at s) ≡ name_at s at
name-part s at = rw add-sub_cancel_left (take-up_to_end (drop at s))

pub name-past : (s : List ℕ) (at : ℕ) → length s ≤ at → name_at s at ≡ []
unfolding up_to_end
name-past s at h = rw (drop_of_length-le s)

pub name_end-le : (s : List ℕ) (at : ℕ) → at ≤ length s → name_end s at ≤ length s
name_end-le s at h = omega (arith, length-up_to_end (drop at s), length-drop at s)

pub end-past : (s : List ℕ) (at : ℕ) → length s ≤ at → name_end s at ≡ at
end-past s at h = rw (name-past s at h) (add-zero at)

pub end-here : (s : List ℕ) (at : ℕ) → at < length s → get_or s at 0 ≡ line_end → name_end s at ≡ at
unfolding up_to_end
end-here s at h e = rw (drop-cons s at 0, e) (add-zero at)

pub end_later : (s : List ℕ) (at : ℕ) → at < length s → (get_or s at 0 ≡ line_end → ⊥) → name_end s at ≡ name_end s (at + 1)
unfolding up_to_end
end_later s at h n = rw (drop-cons s at 0, ne_eqb _ _ n, add-one at) (omega arith)

-- ---- the lines from a place on: the name there, and those behind it

behind-at : (s : List ℕ) (at : ℕ) → behind (drop at s) ≡ drop (name_end s at + 1) s
behind-at s at = rw (drop-drop, add-suc at, add-one)

pub lines_at : (s : List ℕ) (at : ℕ) → at < length s → lines_of (drop at s) ≡ name_at s at ∷ lines_of (drop (name_end s at + 1) s)
lines_at s at h = rw (← behind-at s at, drop-cons s at 0) (lines-first (get_or s at 0) (drop (suc at) s))

ended_at : (s : List ℕ) (at : ℕ) → at < length s
    → ended (drop at s) ≡ (ltb (length (name_at s at)) (length (drop at s)) && ended (drop (name_end s at + 1) s))
ended_at s at h = rw (← behind-at s at, drop-cons s at 0) (ended-first (get_or s at 0) (drop (suc at) s))

pub ended-more : (s : List ℕ) (at : ℕ) → at < length s → name_end s at < length s → ended (drop at s) ≡ ended (drop (name_end s at + 1) s)
ended-more s at h l = rw (ended_at s at h, lt-ltb (length (name_at s at)) (length (drop at s)) (omega (arith, length-drop at s)))

pub ended-none : (s : List ℕ) (at : ℕ) → at < length s → length s ≤ name_end s at → ended (drop at s) ≡ false
ended-none s at h l = rw (ended_at s at h, le-ltb (length (name_at s at)) (length (drop at s)) (omega (arith, length-drop at s)))

-- ---- and whether their words rise

pub names_at : (s : List ℕ) (at : ℕ) → at < length s → names_of (drop at s) ≡ word_of (name_at s at) ∷ names_of (drop (name_end s at + 1) s)
names_at s at h = ap (map word_of) (lines_at s at h)

pub rises-more : (s : List ℕ) (at next : ℕ) (a b : List ℕ) → at < length s → next ≡ name_end s at + 1 → next < length s
    → a ≡ name_at s at → b ≡ name_at s next
    → rises (names_of (drop at s)) ≡ (before (word_of a) (word_of b) && rises (names_of (drop next s)))
unfolding rises
rises-more s at next a b h e l p q = rw (p, q, names_at s at h, ← e, names_at s next l)

pub rises-last : (s : List ℕ) (at : ℕ) → at < length s → length s ≤ name_end s at + 1 → rises (names_of (drop at s)) ≡ true
unfolding rises lines_of
rises-last s at h l = rw (names_at s at h, drop_of_length-le s l)

pub rises-rest : (w : Word) (ws : List Word) → rises (w ∷ ws) ≡ true → rises ws ≡ true
unfolding rises
rises-rest w [] h = refl
rises-rest w (v ∷ ws) h = ((and-eq-true_iff (before w v) (rises (v ∷ ws))).0 h).1
