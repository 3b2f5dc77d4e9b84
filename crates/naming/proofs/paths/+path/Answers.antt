use Prim.Native.Nat.{◌<◌}
use mathlib.Core.Path.{◌≡◌, sym}
use mathlib.Core.List.{[]}
use native.Mathlib.Omega.{arith}
use lib.ListN.{length}
use lib.Seq.{take_all}
use Rattle.std.proofs.lemmas.Result.{err_from_is_err_and}
use Rattle.letters.specs.Words.{rest}
use Rattle.letters.proofs.Words.{rest-length, spelled-rest}
use Rattle.naming.proofs.Naming.{end_fits, end-words, next-named, path-full, path-fits, path-made}
use Rattle.naming.proofs.paths.+path.Goals as goal

pub make-requires : goal.make-requires
make-requires bound c =
    let (tidy, indexed, named, _, _) = c.requires in
    rw (c.end_mark.ensures, c.targets_of-targets.ensures) (tidy, indexed, end_fits _ tidy _ named c.args.on)

pub returns-then-name-eq0-clause-makes : goal.returns-then-name-eq0-clause-makes
returns-then-name-eq0-clause-makes bound c =
    let (tidy, _, named, _, _) = c.requires in
    let none : c.args.name.now ≡ [] = sym (take_all 0 _ (omega arith)) in
    rw none (rw (c.end_mark.ensures, c.targets_of-targets.ensures, end-words _ tidy _ named) at c.make.ensures.makes)

pub path-requires : goal.path-requires
path-requires bound c =
    let name = c.args.name.now in
    let (tidy, indexed, named, spelled, short) = c.requires in
    let some : 0 < length name = omega arith in
    let less : length (rest name) < bound = omega (arith, rest-length name some, c.decreases) in
    let next = next-named _ tidy _ named c.args.on name some spelled short in (
      less,
      (
        tidy,
        indexed,
        rw (c.targets_of-targets.ensures, c.letter_of-x.ensures) next,
        (spelled-rest name some spelled).1,
        omega arith,
      ),
    )

pub returns-in_err-targets-clause-makes : goal.returns-in_err-targets-clause-makes
returns-in_err-targets-clause-makes bound c =
    let (tidy, _, named, spelled, short) = c.requires in
    let error = err_from_is_err_and c.from_residual.result c.from_residual.ensures.1 in
    rw error.1
    (path-full _ tidy _ named c.args.on c.args.name.now (omega arith) spelled short _
    (rw (c.targets_of-targets.ensures, c.letter_of-x.ensures) at c.in_err-targets.ensures.makes))

pub make-requires-2 : goal.make-requires-2
make-requires-2 bound c =
    let (tidy, _, named, spelled, short) = c.requires in
    let made = rw (c.targets_of-targets.ensures, c.letter_of-x.ensures) at c.in_ok-targets.ensures.makes in
    rw (c.mark_of-mark.ensures, c.targets_of-targets.ensures, c.letter_of-x.ensures) (
      made.grows.tidy,
      c.path.ensures.indexed,
      path-fits _ tidy _ named c.args.on c.args.name.now (omega arith) spelled short _ _ made,
    )

pub returns-clause-makes : goal.returns-clause-makes
returns-clause-makes bound c =
    let (tidy, _, named, spelled, short) = c.requires in
    let made = rw (c.targets_of-targets.ensures, c.letter_of-x.ensures) at c.in_ok-targets.ensures.makes in
    path-made _ tidy _ named c.args.on c.args.name.now (omega arith) spelled short _ _ made c.make-2.new.t c.make-2.result
    (rw (c.mark_of-mark.ensures, c.targets_of-targets.ensures, c.letter_of-x.ensures) at c.make-2.ensures.makes)
