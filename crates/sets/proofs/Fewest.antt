-- The lists need as many states as there are different sets left of them: the machine of `Machine.antt` has that many, and by `Served.antt`
-- no automaton with these languages, cyclic or not, has fewer. And the fewest is one number: of two automata with none fewer, neither has fewer
-- than the other. Lists of which no other sets are left need no more. Assumes nothing.
use Prim.Native.Nat.{ℕ, ◌≤◌}
use native.Mathlib.Omega.{arith}
use mathlib.Core.Path.{◌≡◌, refl, sym, ◌∙◌}
use mathlib.Core.List.{List}
use lib.ListN.{length}
use Rattle.letters.specs.Each.{Each}
use Rattle.sets.specs.Sets.{Words, Plain}
use Rattle.sets.specs.Residuals.{states, need}
use Rattle.sets.specs.Automata.{size, Fewest}
use Rattle.sets.proofs.Membership.{In}
use Rattle.sets.proofs.Pigeons.{pigeons}
use Rattle.sets.proofs.States.{states-apart}
use Rattle.sets.proofs.Machine.{machine, machine-languages, once-below, length-below}
use Rattle.sets.proofs.Served.{none_fewer}

pub need-fewest : (ls : List Words) → Each Plain ls → Fewest ls (need ls)
unfolding need
need-fewest ls plain =
    let counted : size (machine ls) ≡ length (states ls) = length-below (length (states ls)) in
    record {
      some = machine ls;
      minimal =
          record {
            once = once-below (length (states ls));
            has = machine-languages ls;
            none_fewer = λ A has. rw counted (none_fewer A ls plain has);
          };
      counted = counted;
    }

pub fewest-one : {ls : List Words} {m n : ℕ} → Fewest ls m → Fewest ls n → m ≡ n
fewest-one f g =
    omega (arith, f.minimal.none_fewer g.some g.minimal.has, g.minimal.none_fewer f.some f.minimal.has, f.counted, g.counted)

pub need-within : (ls ms : List Words) → ((k : Words) → In k (states ls) → In k (states ms)) → need ls ≤ need ms
unfolding need
need-within ls ms within =
    pigeons (λ k l. k ≡ l) (λ k l p d e. d ∙ sym e) (states ls) (states ms) (states-apart ls) (λ k i. (k, within k i, refl))
