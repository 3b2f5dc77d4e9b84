-- `mark_without` meets its promise. Every row in use is led to, so only the row more is owed; when it is released, the rows led to are those reached.
-- Assumes nothing.
use Prim.Native.Nat.{◌+◌}
use native.Mathlib.Omega.{arith}
use lib.Dec.{eqb}
use Rattle.letters.specs.LetterSet.{flag}
use Rattle.model.specs.Lists.{missions}
use Rattle.rows.proofs.Facts.{named-inside}
use Rattle.reaching.specs.Leads.{Owes}
use Rattle.reaching.proofs.Leading.{starts_fit, owes_more, owes-none, led-marks}
use Rattle.reaching.proofs.leads.mark_without.Goals as goal
use Rattle.reaching.proofs.leads.mark_without.Goals.{After-lead}

pub lead-requires : goal.lead-requires
lead-requires c =
    let (tidy, named, counted, reach) = c.requires in
    let first = c.lead_starts.ensures in (
      omega (arith, named-inside c.args.t.now tidy c.args.more named, first.long, counted.long),
      starts_fit missions _ tidy counted first (omega arith) named,
    )

-- where there is no row more, nothing is owed
pub returns-then-more-eq0 : goal.returns-then-more-eq0
returns-then-more-eq0 c =
    let (tidy, named, counted, reach) = c.requires in
    led-marks tidy (owes-none tidy named counted reach c.lead_starts.ensures c.lead.ensures c.if-more-eq0.true)

owed : (c : After-lead) →
    let args = c.args in
    Owes args.t.now c.lead.new.leads (λ s. 0 + flag (eqb args.more s))
owed c =
    let (tidy, named, counted, reach) = c.requires in
    owes_more tidy named counted reach c.lead_starts.ensures c.lead.ensures

pub release-requires : goal.release-requires
release-requires c =
    let (tidy, named, counted, reach) = c.requires in
    (tidy, named (omega (arith, c.if-more-eq0.false)), ((λ s. 0), owed (goal.at.release-requires c).After-lead))

pub returns : goal.returns
returns c =
    led-marks c.requires.0 (c.release.ensures (λ s. 0) (owed (goal.at.returns c).After-lead))
