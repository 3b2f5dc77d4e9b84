-- `settle` meets its promise. If the rows reached with the new start fit, the others are freed; else the old start is set again, and that is the
-- table as it was, which is swept. That they fit is the test of the lists. Assumes nothing.
use Prim.Native.Nat.{ℕ}
use mathlib.Core.Path.{◌≡◌, sym, ap, ◌∙◌, subst}
use mathlib.Core.Bool.{Bool, true, false, cond}
use Rattle.rows.specs.Table.{Table}
use Rattle.rows.specs.Words.{words}
use Rattle.rows.specs.Reach.{swept}
use Rattle.reaching.specs.Leads.{ReachedWith}
use Rattle.settling.specs.Settled.{with_start, fits}
use Rattle.settling.proofs.Settling.{start_back, start-tidy, start-says, old-named, start-reached, start-arcs}
use Rattle.settling.proofs.settles.settle.Goals as goal
use Rattle.settling.proofs.settles.settle.Goals.{After-set_start-2, After-sweep_if_fits}

-- what `sweep_if_fits` leaves, where its answer and its table are known
left_by : {v w after : Table} {done : Bool} (told : Bool) → after ≡ cond done (swept v) v → done ≡ told → v ≡ w → after ≡ cond told (swept w) w
left_by told e h same = e ∙ rw (h, same)

-- what is reached with a row, is so with the same row in the same table
reached-alike : {v w : Table} {n k : ℕ} → v ≡ w → n ≡ k → ReachedWith w k → ReachedWith v n
reached-alike {v} {w} {n} {k} e d all = subst (λ (u : Table). ReachedWith u n) (sym e) (subst (λ (i : ℕ). ReachedWith w i) (sym d) all)

abbrev t : After-sweep_if_fits → Table
t c = c.args.t.now

abbrev m : After-sweep_if_fits → ℕ
m c = c.args.m

abbrev r : After-sweep_if_fits → ℕ
r c = c.args.r

new : (c : After-sweep_if_fits) → c.set_start.new.t ≡ with_start (t c) (m c) (r c)
new c = c.set_start.ensures

says : (c : After-sweep_if_fits) → c.sweep_if_fits.result ≡ fits (t c) (m c) (words (t c) (r c))
says c = c.sweep_if_fits.ensures.says ∙ start-says (t c) (m c) (r c) c.requires.0 c.requires.2 c.requires.3 (new c)

back : (c : After-set_start-2) → c.set_start-2.new.t ≡ t (goal.at.After-set_start-2 c).After-sweep_if_fits
back c =
    let same = left_by false c.sweep_if_fits.ensures.table c.if-sweep_if_fits.false (new (goal.at.After-set_start-2 c).After-sweep_if_fits) in
    let old = c.start-old.ensures in
    c.set_start-2.ensures ∙ start_back (t (goal.at.After-set_start-2 c).After-sweep_if_fits) _ (m (goal.at.After-set_start-2 c).After-sweep_if_fits) (r (goal.at.After-set_start-2 c).After-sweep_if_fits) _ same old

pub sweep_if_fits-requires : goal.sweep_if_fits-requires
sweep_if_fits-requires c =
    let (tidy, indexed, below, startable, reach) = c.requires in
    let set = c.set_start.ensures in
    let old = c.start-old.ensures in (
      rw set (start-tidy _ _ _ tidy below startable),
      rw (set, old) (old-named _ _ _ tidy below startable),
      reached-alike set old (start-reached _ _ _ tidy below startable reach),
      indexed.keys.long,
      rw set (start-arcs _ _ _ tidy below c.args.index.now indexed.arcs),
    )

pub returns-then-sweep_if_fits : goal.returns-then-sweep_if_fits
returns-then-sweep_if_fits c =
    record {
      says = sym c.if-sweep_if_fits.true ∙ says (goal.at.returns-then-sweep_if_fits c).After-sweep_if_fits;
      table = left_by true c.sweep_if_fits.ensures.table c.if-sweep_if_fits.true (new (goal.at.returns-then-sweep_if_fits c).After-sweep_if_fits);
    }

pub sweep-requires : goal.sweep-requires
sweep-requires c = rw (back (goal.at.sweep-requires c).After-set_start-2) c.requires.0

pub returns : goal.returns
returns c =
    record {
      says = sym c.if-sweep_if_fits.false ∙ says (goal.at.returns c).After-sweep_if_fits;
      table = c.sweep.ensures ∙ ap swept (back (goal.at.returns c).After-set_start-2);
    }
