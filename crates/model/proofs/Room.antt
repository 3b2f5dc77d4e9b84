-- Room refuses a change exactly when the fewest states that the lists after it need are more than the room. Where nothing but room refuses a
-- call, what is given is what 11 gives, and 11 counts the sets that are left of the lists. That count is the fewest states of an automaton
-- because the lists that the call would leave are plain sets: one of them is replaced, by a list with a name on it or off it, by none, by the
-- names of one or two lists for load, or by two lists combined, and each of these is a plain set of names. Assumes nothing.
use Prim.Native.Nat.{ℕ, zero, suc, ◌≤◌, ◌<◌}
use native.Mathlib.Omega.{arith}
use native.Mathlib.Decide.{ℕ_discrete}
use mathlib.Core.Path.{◌≡◌, refl, ◌∙◌, ap}
use mathlib.Core.Logic.{◌≢◌}
use mathlib.Core.Bool.{Bool, true, false, not, ◌&&◌, false≢true, and-eq-true_iff}
use mathlib.Core.List.{List, [], ◌∷◌}
use lib.Dec.{eqb, ltb}
use lib.ListN.{length, replicate, length-set, length-map}
use borrow.Author.Tests.{ltb-true, ltb-false, le-ltb, eqb-false, not-true, not-false}
use Rattle.letters.specs.Each.{Each}
use Rattle.letters.specs.Words.{Word, word_of, bytes_of, Spelled}
use Rattle.letters.specs.Names.{is_name}
use Rattle.letters.specs.Lists.{lines_of, names_of, is_list}
use Rattle.letters.proofs.Words.{name-parts, name-bytes}
use Rattle.letters.proofs.Lines.{names-each, list-parts}
use Rattle.sets.specs.Sets.{Words, Filled, Plain, both}
use Rattle.sets.specs.Residuals.{states, need}
use Rattle.sets.specs.Automata.{Fewest}
use Rattle.sets.proofs.Sets.{rises-rising, plain-both}
use Rattle.sets.proofs.Membership.{In}
use Rattle.sets.proofs.States.{list-in-states, after-in-states, states-all}
use Rattle.sets.proofs.Fewest.{need-fewest, fewest-one, need-within}
use Rattle.model.specs.Lists.{missions, list_of, replace, SixteenSets}
use Rattle.model.specs.Call.{Call, Book, Outcome}
use Rattle.model.specs.Call.Call.{empty, check, ask, next, add, remove, clear, load, load_two, combine, count, rank, nth, write, used}
use Rattle.model.specs.Refusals.{Refusal, given, no_room}
use Rattle.model.specs.Rules.{with_name, combined}
use Rattle.model.specs.Run.{rule, refused, run}
use Rattle.model.specs.Changes.{is_change}
use Rattle.model.specs.Room.{OnlyRoom, RoomExact}
use Rattle.model.proofs.Lists.{replace-same, replace-other, replace-each, list-each}
use Rattle.model.proofs.Names.{plain-with-name, with-name-each}
use Rattle.model.proofs.Changes.{done-number}
use Rattle.model.proofs.Combined.{plain-combined, combined-each}

-- ---- the lists that a call would leave

-- the word is a name's
abbrev Name : Word → Type 0
Name w = is_name (bytes_of w) ≡ true

none-plain : Plain []
none-plain = record { rising = tt; spelled = tt }

name-word : (name : List ℕ) → is_name name ≡ true → Name (word_of name)
name-word name e =
    let (some, short, spelled) = name-parts name e in
    name-bytes (word_of name) (rw length-map some) (rw length-map short) spelled

pub list-for-load : (bytes : List ℕ) → is_list bytes ≡ true → Plain (names_of bytes) × Each Name (names_of bytes)
list-for-load bytes e =
    let (short, ended, named, rising) = list-parts bytes e in (
      record {
        rising = rises-rising (names_of bytes) rising;
        spelled = names-each Spelled (λ name h. (name-parts name h).2) (lines_of bytes) named;
      },
      names-each Name name-word (lines_of bytes) named,
    )

empty-each : (P : Words → Type 0) (n : ℕ) → P [] → Each P (replicate n [])
empty-each P zero p = tt
empty-each P (suc n) p = (p, empty-each P n p)

module _ {ls : List Words} (sets : SixteenSets ls) where
  pub list-plain : (m : ℕ) → Plain (list_of ls m)
  list-plain m = list-each Plain ls m sets.plain none-plain

  pub list-names : (m : ℕ) → Each Name (list_of ls m)
  list-names m = list-each (Each Name) ls m sets.names tt

  replace-sets : (m : ℕ) (l : Words) → Plain l → Each Name l → SixteenSets (replace ls m l)
  replace-sets m l plain names =
      record {
        sixteen = length-set ls m l ∙ sets.sixteen;
        plain = replace-each Plain ls m l sets.plain plain;
        names = replace-each (Each Name) ls m l sets.names names;
      }

  with-name-sets : (on : Bool) (m : ℕ) (name : List ℕ) → is_name name ≡ true → SixteenSets (replace ls m (with_name on (word_of name) (list_of ls m)))
  with-name-sets on m name e =
      replace-sets m (with_name on (word_of name) (list_of ls m))
      (plain-with-name on (word_of name) (list_of ls m) (name-parts name e).2 (list-plain m))
      (with-name-each Name on (word_of name) (list_of ls m) (name-word name e) (list-names m))

  loaded-sets : (m : ℕ) (bytes : List ℕ) → is_list bytes ≡ true → SixteenSets (replace ls m (names_of bytes))
  loaded-sets m bytes e = replace-sets m (names_of bytes) (list-for-load bytes e).0 (list-for-load bytes e).1

  loaded-two-sets : (m : ℕ) (first second : List ℕ) → is_list first ≡ true → is_list second ≡ true
      → SixteenSets (replace ls m (both (names_of first) (names_of second)))
  loaded-two-sets m first second d e =
      let (plain, names) = list-for-load first d in
      let (plain2, names2) = list-for-load second e in
      replace-sets m (both (names_of first) (names_of second)) (plain-both (names_of first) (names_of second) plain plain2)
      (combined-each Name 1 (names_of first) (names_of second) names names2)

  combined-sets : (op x y z : ℕ) → SixteenSets (replace ls z (combined op (list_of ls x) (list_of ls y)))
  combined-sets op x y z =
      replace-sets z (combined op (list_of ls x) (list_of ls y))
      (plain-combined op (list_of ls x) (list_of ls y) (list-plain x) (list-plain y))
      (combined-each Name op (list_of ls x) (list_of ls y) (list-names x) (list-names y))

pub after-sets : (b : Book) (c : Call) → SixteenSets b.lists → OnlyRoom b c → SixteenSets (rule b c).done.lists
after-sets b empty sets only =
    record { sixteen = refl; plain = empty-each Plain missions none-plain; names = empty-each (Each Name) missions tt }
after-sets b (add m name) sets only = with-name-sets sets true m name (not-false (is_name name) (only.1.1.0 (omega arith)))
after-sets b (remove m name) sets only = with-name-sets sets false m name (not-false (is_name name) (only.1.1.0 (omega arith)))
after-sets b (clear m) sets only = replace-sets sets m [] none-plain tt
after-sets b (load m bytes) sets only = loaded-sets sets m bytes (not-false (is_list bytes) (only.1.1.0 (omega arith)))
after-sets b (load_two m first second) sets only =
    let (one, two) = (and-eq-true_iff (is_list first) (is_list second)).0 (not-false (is_list first && is_list second) (only.1.1.0 (omega arith))) in
    loaded-two-sets sets m first second one two
after-sets b (combine op x y z) sets only = combined-sets sets op x y z
after-sets b check sets only = sets
after-sets b (ask m name) sets only = sets
after-sets b (next m prefix) sets only = sets
after-sets b (count m) sets only = sets
after-sets b (rank m name) sets only = sets
after-sets b (nth m n size) sets only = sets
after-sets b (write m size) sets only = sets
after-sets b used sets only = sets

-- ---- what is given where nothing but room refuses a change

-- what the last refusal gives
abbrev last_given : List Refusal → ℕ
last_given [] = 0
last_given (r ∷ []) = given (r ∷ [])
last_given (r ∷ s ∷ rs) = last_given (s ∷ rs)

-- no refusal but the last is numbered 11
abbrev room_last : List Refusal → Bool
room_last [] = true
room_last (r ∷ []) = true
room_last (r ∷ s ∷ rs) = not (eqb r.number 11) && room_last (s ∷ rs)

given-last : (rs : List Refusal) → room_last rs ≡ true → Each (λ r. r.number ≢ 11 → r.applies ≡ false) rs → given rs ≡ last_given rs
given-last [] e only = refl
given-last (r ∷ []) e only = refl
given-last (r ∷ s ∷ rs) e only =
    let (other, more) = (and-eq-true_iff (not (eqb r.number 11)) (room_last (s ∷ rs))).0 e in
    rw (only.0 (eqb-false r.number 11 (not-true (eqb r.number 11) other))) (given-last (s ∷ rs) more only.1)

-- what is given is what 11 gives, and what is done has number 0
abbrev ByRoom : Book → Call → Type 0
ByRoom b c = given (rule b c).refusals ≡ given (no_room b (rule b c).done.lists ∷ [])

-- a list that is cleared leaves no other sets
pub need-cleared : (ls : List Words) (m : ℕ) → need (replace ls m []) ≤ need ls
need-cleared ls m =
    need-within (replace ls m []) ls
    (λ k i. states-all (λ k. In k (states ls)) (λ x h k j f. after-in-states ls j x h f) (replace ls m []) list i)
  where
    list : (n : ℕ) → n < length (replace ls m []) → Filled (list_of (replace ls m []) n) → In (list_of (replace ls m []) n) (states ls)
    list n h some =
        let inside : n < length ls = rw (length-set ls m []) at h in
        elim (ℕ_discrete n m) [
          | yes e ↦ absurd (rw (e, replace-same ls m [] (rw e at inside)) at some)
          | no e ↦ let same = replace-other ls m n [] e in rw same (list-in-states ls n inside (rw same at some))
        ]

only-room : (b : Book) (c : Call) → need b.lists ≤ b.room → is_change c ≡ true → OnlyRoom b c → ByRoom b c
only-room b (add m name) fits e only = given-last (rule b (add m name)).refusals refl only
only-room b (remove m name) fits e only = given-last (rule b (remove m name)).refusals refl only
only-room b (load m bytes) fits e only = given-last (rule b (load m bytes)).refusals refl only
only-room b (load_two m first second) fits e only = given-last (rule b (load_two m first second)).refusals refl only
only-room b (combine op x y z) fits e only = given-last (rule b (combine op x y z)).refusals refl only
-- clear is not refused for room, and needs none
only-room b (clear m) fits e only =
    let enough = le-ltb b.room (need (replace b.lists m [])) (omega (arith, need-cleared b.lists m)) in
    given-last (rule b (clear m)).refusals refl only ∙ rw (only.1.1.0 (omega arith), enough)
only-room b empty fits e only = absurd (false≢true e)
only-room b check fits e only = absurd (false≢true e)
only-room b (ask m name) fits e only = absurd (false≢true e)
only-room b (next m prefix) fits e only = absurd (false≢true e)
only-room b (count m) fits e only = absurd (false≢true e)
only-room b (rank m name) fits e only = absurd (false≢true e)
only-room b (nth m n size) fits e only = absurd (false≢true e)
only-room b (write m size) fits e only = absurd (false≢true e)
only-room b used fits e only = absurd (false≢true e)

pub room-exact : (b : Book) (c : Call) → SixteenSets b.lists → need b.lists ≤ b.room → is_change c ≡ true → OnlyRoom b c
    → (n : ℕ) → Fewest (rule b c).done.lists n → RoomExact b c n
unfolding run
room-exact b c sets fits change only n few = go (ltb b.room (need (rule b c).done.lists)) refl
  where
    counted : need (rule b c).done.lists ≡ n
    counted = fewest-one (need-fewest (rule b c).done.lists (after-sets b c sets only).plain) few

    go : (over : Bool) → ltb b.room (need (rule b c).done.lists) ≡ over → RoomExact b c n
    go true e =
        let more : b.room < n = rw counted at (ltb-true b.room (need (rule b c).done.lists) e) in
        let eleven : run b c ≡ refused 11 b = rw (only-room b c fits change only, e) in
        record {
          refused_over = λ d. more;
          over_refused = λ h. ap (λ (o : Outcome). o.number) eleven;
          within_done = λ h. absurd (omega arith);
        }
    go false e =
        let most : n ≤ b.room = rw counted at (ltb-false b.room (need (rule b c).done.lists) e) in
        let done : run b c ≡ (rule b c).done = rw (only-room b c fits change only, e) in
        record {
          refused_over = λ d. absurd (omega (arith, ap (λ (o : Outcome). o.number) done, done-number b c));
          over_refused = λ h. absurd (omega arith);
          within_done = λ h. done;
        }
