-- `write_row` meets its promise, number by number: the targets are one part of the table, behind the mark and the height. Assumes nothing.
use Prim.Native.Nat.{ℕ, ◌+◌, ◌-◌, ◌*◌, ◌≤◌, ◌<◌}
use native.Mathlib.Omega.{arith}
use borrow.Author.Rules.{rules}
use borrow.Rule.Slice.PartMut.{put_mid}
use mathlib.Core.Path.{◌≡◌, ◌∙◌}
use mathlib.Core.List.{List}
use lib.ListN.{length, get_or}
use lib.Seq.{get_or-set_other}
use Rattle.std.proofs.lemmas.List.{places}
use Rattle.letters.specs.Letters.{letters}
use Rattle.rows.specs.Table.{width}
use Rattle.growing.proofs.writes.write_row.Goals as goal

-- what stands outside a part that is written stays
outside : (a end : ℕ) (xs ys : List ℕ) (j : ℕ) → (a ≤ j → j < end → ⊥) → a ≤ end → end ≤ length xs → length ys ≡ end - a
    → get_or (put_mid a (end - a) xs ys) j 0 ≡ get_or xs j 0
outside a end xs ys j out low high long = search (rules, places)

pub returns : goal.returns
returns c =
    record {
      long = search rules;
      others = λ j other.
          outside (c.args.r * width + 2) (c.args.r * width + 2 + letters) _ _ j (λ low below. other (omega arith)) (omega arith) (search rules) (search rules)
          ∙ get_or-set_other _ _ j _ 0 (λ e. other (omega arith)) ∙ get_or-set_other c.args.t.now _ j _ 0 (λ e. other (omega arith));
      marked = search (rules, places);
      high = search (rules, places);
      targeted = search (rules, places);
      rest = search (rules, places);
    }
