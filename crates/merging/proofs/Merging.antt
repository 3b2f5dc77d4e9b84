-- The merge, one step after another. From some places on both are lists; the next name is the first word of both together, by whose turn it is,
-- and behind it both are lists again, with fewer bytes left. So the parts taken one after another are the words of both. Assumes nothing.
use Prim.Native.Nat.{ℕ, zero, suc, ◌+◌, ◌≤◌, ◌<◌}
use native.Mathlib.Omega.{arith}
use native.Mathlib.Decide.{ℕ_discrete, dec_lt}
use mathlib.Core.Path.{◌≡◌, refl, sym, ◌∙◌, ap}
use mathlib.Core.Bool.{Bool, true, false, ◌&&◌, false≢true, and-eq-true_iff}
use mathlib.Core.Logic.{inl, inr}
use mathlib.Core.List.{List, [], ◌∷◌}
use denote.Ref.{Bor}
use lib.ListN.{length, drop, drop_of_length-le, length-map}
use Rattle.letters.specs.Each.{every, Each}
use Rattle.letters.specs.Words.{Word, word_of, Spelled}
use Rattle.letters.specs.Names.{longest, is_name}
use Rattle.letters.specs.Parts.{Part, SamePart}
use Rattle.letters.specs.Lists.{name_at, name_end, lines_of, is_list, names_of}
use Rattle.letters.proofs.Words.{name-parts}
use Rattle.letters.proofs.Ordering.{order-eq, after-before}
use Rattle.letters.proofs.Lines.{name_end-le, lines_at, list-parts, names-each, ended-more, ended-none, names_at, name-part, rises-rest}
use Rattle.sets.specs.Sets.{Words, Rising, Plain, member, both}
use Rattle.sets.proofs.Membership.{either}
use Rattle.sets.proofs.Sets.{member-each, members-each, member-both, rises-rising, plain-both}
use Rattle.sets.proofs.Both.{both-none, both_first, both-tie, both-second}
use Rattle.merging.specs.declared.places.Places.{Places}
use Rattle.merging.specs.declared.places.Turn.{Turn}
use Rattle.merging.specs.declared.places.Turn.TheVariants.{First, Second, Both, Neither}
use Rattle.merging.specs.Merging.{turn_of, bytes_by, next_bytes, Handed, NextPart, HandedOf, NextName, moved_by, places_after, fronts, take_on, merged}
use Rattle.merging.specs.Merging.{names_from, Listed, Lists, both_from, bytes_left}
use Rattle.merging.proofs.Turns.{Left, left}

-- ---- one list, from a place on

no_names : (list : List ℕ) (at : ℕ) → length list ≤ at → names_from list at ≡ []
unfolding lines_of
no_names list at h = rw (drop_of_length-le list h)

module _ {list : List ℕ} {at : ℕ} (listed : Listed list at) where
  names-plain : Plain (names_from list at)
  names-plain =
      record {
        rising = rises-rising _ listed.rising;
        spelled = names-each Spelled (λ bytes h. (name-parts bytes h).2) (lines_of (drop at list)) listed.named;
      }

  names-short : Each (λ w. length w ≤ longest) (names_from list at)
  names-short =
      names-each (λ w. length w ≤ longest) (λ bytes h. rw length-map (name-parts bytes h).1) (lines_of (drop at list)) listed.named

  module _ (some : at < length list) where
    name-ends : name_end list at < length list
    name-ends =
        elim (ℕ_discrete (name_end list at) (length list)) [
          | yes e ↦ absurd (false≢true (sym (ended-none list at some (omega arith)) ∙ listed.ended))
          | no e ↦ omega (arith, name_end-le list at listed.inside)
        ]

    names : (is_name (name_at list at) ≡ true) × (every is_name (lines_of (drop (name_end list at + 1) list)) ≡ true)
    names = (and-eq-true_iff (is_name (name_at list at)) _).0 (rw (lines_at list at some) at listed.named)

    listed-behind : Listed list (name_end list at + 1)
    listed-behind =
        record {
          inside = omega (arith, name-ends);
          ended = sym (ended-more list at some name-ends) ∙ listed.ended;
          named = names.1;
          rising = rises-rest _ _ (rw (names_at list at some) at listed.rising);
        }

    first-rising : Rising (word_of (name_at list at) ∷ names_from list (name_end list at + 1))
    first-rising = rw (names_at list at some) at names-plain.rising

listed-list : (list : List ℕ) → is_list list ≡ true → Listed list 0
listed-list list h =
    let (_, ended, named, rising) = list-parts list h in
    record { inside = omega arith; ended = ended; named = named; rising = rising }

-- the word at a place, and those behind it
abbrev first_word : List ℕ → ℕ → Word
first_word list at = word_of (name_at list at)

abbrev others : List ℕ → ℕ → Words
others list at = names_from list (name_end list at + 1)

-- ---- both lists

pub both-lists : (f s : List ℕ) → is_list f ≡ true → is_list s ≡ true → Lists f s fronts
both-lists f s h k = record { first = listed-list f h; second = listed-list s k }

module _ {f s : List ℕ} {at : Places} (lists : Lists f s at) where
  pub both-plain : Plain (both_from f s at)
  both-plain = plain-both _ _ (names-plain lists.first) (names-plain lists.second)

  pub both-short : Each (λ w. length w ≤ longest) (both_from f s at)
  both-short =
      let one = names_from f at.first in
      let two = names_from s at.second in
      members-each _ (both one two) (λ w m. elim (either (member w one) (member w two) (rw member-both at m)) [
        | inl e ↦ member-each _ one (names-short lists.first) w e
        | inr e ↦ member-each _ two (names-short lists.second) w e
      ])

-- a name is taken: it is the first word of both, and behind it both are lists, with fewer bytes left
pub record Taken (f s : List ℕ) (at : Places) (name : List ℕ) (next : Places) : Type 0 where
  pub words : both_from f s at ≡ word_of name ∷ both_from f s next
  pub named : is_name name ≡ true
  pub lists : Lists f s next
  pub less : bytes_left f s next < bytes_left f s at

-- or both are at their ends
pub record Over (f s : List ℕ) (at : Places) : Type 0 where
  pub none : both_from f s at ≡ []
  pub spent : bytes_left f s at ≡ 0

abbrev Step : Turn → List ℕ → List ℕ → Places → Type 0
Step First f s at = Taken f s at (bytes_by First f s at) (moved_by First f s at)
Step Both f s at = Taken f s at (bytes_by Both f s at) (moved_by Both f s at)
Step Second f s at = Taken f s at (bytes_by Second f s at) (moved_by Second f s at)
Step Neither f s at = Over f s at

module _ {f s : List ℕ} {at : Places} (lists : Lists f s at) where
  step_by : (turn : Turn) → Left turn f s at → Step turn f s at
  unfolding both
  step_by Neither (h, k) = record { none = rw (no_names f at.first h, no_names s at.second k); spent = omega arith }
  step_by First (h, k) =
      let i = at.first in
      let j = at.second in
      let lf = lists.first in
      let ls = lists.second in
      record {
        words = elim (dec_lt j (length s)) [
          | yes l ↦
              rw (names_at f i h, names_at s j l)
              (both_first (first_word f i) (others f i) (first-rising lf h) (first_word s j) (others s j) (first-rising ls l) (rw (k l)))
          | no l ↦ rw (names_at f i h, no_names s j (omega arith)) (both-none (first_word f i) (others f i) (first-rising lf h))
        ];
        named = (names lf h).0;
        lists = record { first = listed-behind lf h; second = ls };
        less = omega (arith, name-ends lf h);
      }
  step_by Both (h, k, e) =
      let i = at.first in
      let j = at.second in
      let lf = lists.first in
      let ls = lists.second in
      record {
        words =
            rw (names_at f i h, names_at s j k)
            (both-tie (first_word f i) (others f i) (first-rising lf h) (first_word s j) (others s j) (first-rising ls k) (order-eq _ _ e));
        named = (names lf h).0;
        lists = record { first = listed-behind lf h; second = listed-behind ls k };
        less = omega (arith, name-ends lf h, name-ends ls k);
      }
  step_by Second (h, k) =
      let i = at.first in
      let j = at.second in
      let lf = lists.first in
      let ls = lists.second in
      record {
        words = elim (dec_lt i (length f)) [
          | yes l ↦
              rw (names_at f i l, names_at s j h)
              (both-second (first_word f i) (others f i) (first-rising lf l) (first_word s j) (others s j) (first-rising ls h) (after-before _ _ (k l)))
          | no l ↦ rw (names_at s j h, no_names f i (omega arith))
        ];
        named = (names ls h).0;
        lists = record { first = lf; second = listed-behind ls h };
        less = omega (arith, name-ends ls h);
      }

  step : Step (turn_of f s at) f s at
  step = step_by (turn_of f s at) (left f s at)

  some-name : (name : List ℕ) → is_name name ≡ true → length name ≡ 0 → ⊥
  some-name name h e = omega (arith, (name-parts name h).0)

  -- the next bytes are a name, or none are left
  pub next-taken : 0 < length (next_bytes f s at) → Taken f s at (next_bytes f s at) (places_after f s at)
  next-taken = go (turn_of f s at) step
    where
      go : (turn : Turn) → Step turn f s at → 0 < length (bytes_by turn f s at) → Taken f s at (bytes_by turn f s at) (moved_by turn f s at)
      go First taken some = taken
      go Both taken some = taken
      go Second taken some = taken
      go Neither over some = absurd (omega arith)

  pub next-over : length (next_bytes f s at) ≡ 0 → Over f s at
  next-over = go (turn_of f s at) step
    where
      go : (turn : Turn) → Step turn f s at → length (bytes_by turn f s at) ≡ 0 → Over f s at
      go First taken e = absurd (some-name (bytes_by First f s at) taken.named e)
      go Both taken e = absurd (some-name (bytes_by Both f s at) taken.named e)
      go Second taken e = absurd (some-name (bytes_by Second f s at) taken.named e)
      go Neither over e = over

  -- the same by the bytes that are left
  pub left-taken : 0 < bytes_left f s at → Taken f s at (next_bytes f s at) (places_after f s at)
  left-taken some =
      elim (ℕ_discrete (length (next_bytes f s at)) 0) [
        | yes e ↦ absurd (omega (arith, (next-over e).spent))
        | no e ↦ next-taken (omega arith)
      ]

  pub none_left : bytes_left f s at ≡ 0 → both_from f s at ≡ []
  unfolding both
  none_left spent =
      rw (no_names f at.first (omega (arith, lists.first.inside)), no_names s at.second (omega (arith, lists.second.inside)))

-- ---- the part that is handed over has the bytes of the next name

handed-bytes : (turn : Turn) (f s : Bor (List ℕ)) (at : Places) (part : Bor (List ℕ)) → Handed turn f s at part
    → part.now ≡ bytes_by turn f.now s.now at
handed-bytes First f s at part h = h.bytes ∙ name-part f.now at.first
handed-bytes Both f s at part h = h.bytes ∙ name-part f.now at.first
handed-bytes Second f s at part h = h.bytes ∙ name-part s.now at.second
handed-bytes Neither f s at part h = h

pub next-bytes : (f s : Bor (List ℕ)) (at : Places) (part : Bor (List ℕ)) → NextPart f s at part
    → part.now ≡ next_bytes f.now s.now at
next-bytes f s at part h = handed-bytes (turn_of f.now s.now at) f s at part h

-- "Any two outcomes that satisfy it are proved the same": two parts that are handed over, but for where an empty one stands
part_same : {f : Bor (List ℕ)} {start end : ℕ} {p q : Bor (List ℕ)} → Part f start end p → Part f start end q → SamePart p q
part_same a b =
    record {
      bytes = a.bytes ∙ sym b.bytes;
      block = λ _. a.block ∙ sym b.block;
      offset = λ _. a.offset ∙ sym b.offset;
    }

none-same : {p q : Bor (List ℕ)} → p.now ≡ [] → q.now ≡ [] → SamePart p q
none-same a b =
    record { bytes = a ∙ sym b; block = λ some. absurd (omega (arith, ap length a)); offset = λ some. absurd (omega (arith, ap length a)) }

module _ (f s : Bor (List ℕ)) (at : Places) (p q : Bor (List ℕ)) where
  handed-same : (turn : Turn) → Handed turn f s at p → Handed turn f s at q → SamePart p q
  handed-same First a b = part_same a b
  handed-same Both a b = part_same a b
  handed-same Second a b = part_same a b
  handed-same Neither a b = none-same a b

  pub part-tight : NextPart f s at p → NextPart f s at q → SamePart p q
  part-tight = handed-same (turn_of f.now s.now at)

  pub name-tight : NextName f s at p → NextName f s at q → SamePart p q
  name-tight = go (is_list f.now && is_list s.now)
    where
      go : (fine : Bool) → HandedOf fine f s at p → HandedOf fine f s at q → SamePart p q
      go true a b = part-tight a b
      go false a b = none-same a b

-- ---- all names

merged-from : (n : ℕ) (f s : List ℕ) (at : Places) → Lists f s at → bytes_left f s at ≤ n → merged n f s at ≡ both_from f s at
unfolding merged
merged-from zero f s at lists h = sym (none_left lists (omega arith))
merged-from (suc n) f s at lists h = go (next_bytes f s at) (places_after f s at) (next-taken lists) (next-over lists) (merged-from n f s (places_after f s at))
  where
    go : (name : List ℕ) (next : Places) → (0 < length name → Taken f s at name next) → (length name ≡ 0 → Over f s at)
        → (Lists f s next → bytes_left f s next ≤ n → merged n f s next ≡ both_from f s next) → take_on name (merged n f s next) ≡ both_from f s at
    go [] next taken over more = sym (over refl).none
    go (b ∷ bytes) next taken over more =
        let one = taken (omega arith) in
        rw (more one.lists (omega (arith, one.less))) (sym one.words)

-- Taken one after another from the fronts of two lists, "the next name of the two" is each of their names once, in order; and there are no more
pub merged-both : (f s : List ℕ) → is_list f ≡ true → is_list s ≡ true → (n : ℕ) → length f + length s ≤ n
    → (merged n f s fronts ≡ both (names_of f) (names_of s)) × Rising (both (names_of f) (names_of s))
merged-both f s h k n long =
    let lists = both-lists f s h k in
    (merged-from n f s fronts lists (omega arith), (both-plain lists).rising)
