-- `set_name` meets its promise: the walk says whether the name is on the list; if that is as wanted nothing changes, and else the name is
-- changed. Assumes nothing.
use mathlib.Core.Path.{◌≡◌, sym, ◌∙◌}
use Rattle.letters.specs.Words.{word_of}
use Rattle.letters.proofs.Words.{name-parts, name-spelled}
use Rattle.sets.specs.Sets.{member}
use Rattle.model.specs.Lists.{list_of}
use Rattle.rows.specs.Words.{lists}
use Rattle.rows.proofs.Rules.{sound-length, start-inside}
use Rattle.minimal.proofs.Theorems.{sound-ask}
use Rattle.changing.proofs.Outcomes.{beq_same, beq-other, set_same}
use Rattle.changing.proofs.names.set_name.Goals as goal
use Rattle.changing.proofs.names.set_name.Goals.{After-has_name}

pub has_name-requires : goal.has_name-requires
has_name-requires c =
    let (given, _) = c.requires in
    (start-inside _ (sound-length _ given.sound) _ given.mission, name-spelled _ given.named)

-- the walk says whether the name is on the list
on_list : (c : After-has_name) →
    c.has_name.result ≡ member (word_of c.args.name.now) (list_of (lists c.args.t.now) c.args.m)
on_list c =
    let (given, _) = c.requires in
    let (_, _, spelled) = name-parts _ given.named in
    c.has_name.ensures ∙ sound-ask c.args.t.now given.sound c.args.m given.mission _ spelled

pub returns-then-has_name-on : goal.returns-then-has_name-on
returns-then-has_name-on c =
    let (given, _) = c.requires in
    set_same _ given.sound _ given.mission c.args.on _ given.named (sym (on_list (goal.at.returns-then-has_name-on c).After-has_name) ∙ beq_same _ _ c.if-has_name-on.true)

pub change_name-requires : goal.change_name-requires
change_name-requires c =
    let (given, indexed) = c.requires in
    (given, indexed, sym (on_list (goal.at.change_name-requires c).After-has_name) ∙ beq-other _ _ c.if-has_name-on.false)

pub returns : goal.returns
returns c = c.change_name.ensures
