-- 02's wish 2: a load of one list is the load of two of which the second is empty, and a list that was written is one that load takes back, with
-- the same names: it is rising names, each followed by the line end, and not too long. Assumes nothing.
use Prim.Native.Nat.{ℕ, zero, suc, ◌<◌}
use native.Mathlib.Omega.{arith}
use mathlib.Core.Path.{◌≡◌, refl}
use mathlib.Core.Bool.{Bool, true, false, not, cond}
use mathlib.Core.List.{List, []}
use lib.Dec.{ltb}
use lib.ListN.{length}
use borrow.Author.Tests.{ltb-false}
use Rattle.letters.specs.Lists.{longest_list, lines_of, ended, rises, names_of, lines, is_list}
use Rattle.letters.proofs.Loaded.{written-names, written-list}
use Rattle.sets.specs.Sets.{Words}
use Rattle.sets.specs.Residuals.{need}
use Rattle.sets.proofs.Sets.{rising-rises}
use Rattle.sets.proofs.Both.{both-alone}
use Rattle.sets.proofs.Membership.{here, there}
use Rattle.model.specs.Lists.{last_mission, missions, list_of, replace, SixteenSets}
use Rattle.model.specs.Call.{Book, Outcome}
use Rattle.model.specs.Call.Call.{load, load_two, write}
use Rattle.model.specs.Refusals.{given, over_long}
use Rattle.model.specs.Rules.{leaves, puts}
use Rattle.model.specs.Run.{rule, refused, outcome, run}
use Rattle.model.proofs.Refusals.{none-applies, mission-under}
use Rattle.model.proofs.Room.{list-plain, list-names, list-for-load}

no-list : is_list [] ≡ true
unfolding is_list lines_of ended rises
no-list = refl

no_names : names_of [] ≡ []
unfolding lines_of
no_names = refl

pub load-alone : (b : Book) (m : ℕ) (list : List ℕ) → run b (load_two m list []) ≡ run b (load m list)
unfolding run
load-alone b m list = go (is_list list) refl
  where
    -- no list is refused, by what was tested before or by 5
    either : (x y : Bool) (d e : Outcome) → outcome b (cond x 1 (cond y 2 5)) d ≡ outcome b (cond x 1 (cond y 2 5)) e
    either true y d e = refl
    either false true d e = refl
    either false false d e = refl

    go : (fine : Bool) → is_list list ≡ fine → run b (load_two m list []) ≡ run b (load m list)
    go true e = rw (e, no-list, no_names, both-alone (names_of list) (list-for-load list e).0.rising)
    go false e = rw e (either (not b.length_ok) (ltb last_mission m) _ _)

module _ (b : Book) (sets : SixteenSets b.lists) (m size : ℕ) (done : (run b (write m size)).number ≡ 0) where
  none-given : given (rule b (write m size)).refusals ≡ 0
  unfolding run
  none-given = go (given (rule b (write m size)).refusals) done
    where
      go : (n : ℕ) → (outcome b n (rule b (write m size)).done).number ≡ 0 → n ≡ 0
      go zero e = refl
      go (suc n) e = absurd (omega arith)

  pub written : run b (write m size) ≡ puts b (lines (list_of b.lists m)) (length (lines (list_of b.lists m)))
  unfolding run
  written = rw none-given

  -- "as bytes that load takes back"
  pub written-taken : is_list (lines (list_of b.lists m)) ≡ true
  written-taken =
      let l = list_of b.lists m in
      let plain = list-plain sets m in
      written-list l plain.spelled (list-names sets m) (rising-rises l plain.rising)
      (ltb-false longest_list (length (lines l)) (none-applies b (write m size) (over_long (lines l)) (there (there (there (here refl)))) none-given))

  pub written-again : names_of (lines (list_of b.lists m)) ≡ list_of b.lists m
  written-again = written-names (list_of b.lists m) (list-plain sets m).spelled

  -- "Loading them, where room allows, gives an equal list": into an empty list of a sound book
  module _ (c : Book) (n : ℕ) (fine : c.length_ok ≡ true) (sound : c.sound ≡ true) (mission : n < missions) (empty : list_of c.lists n ≡ []) where
    abbrev loaded : List Words
    loaded = replace c.lists n (list_of b.lists m)

    pub load_again : (over : Bool) → ltb c.room (need loaded) ≡ over
        → run c (load n (lines (list_of b.lists m))) ≡ cond over (refused 11 c) (leaves loaded (length (list_of b.lists m)))
    unfolding run
    load_again true e = rw (fine, mission-under n mission, written-taken, sound, empty, written-again, e)
    load_again false e = rw (fine, mission-under n mission, written-taken, sound, empty, written-again, e)
