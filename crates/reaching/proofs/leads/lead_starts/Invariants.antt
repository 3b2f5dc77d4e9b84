-- `lead_starts` meets its promise. The loop's invariant: the starts before `m` lead to their rows. No more lead to a row than there are starts, so
-- one more fits. Assumes nothing.
use Rattle.index.specs.Arcs.{Adds}
use Rattle.reaching.specs.Leads.{starts_at}
use Rattle.reaching.proofs.leads.lead_starts.Given as goal

abbrev pub invariant-loop-m : goal.invariant-loop-m
invariant-loop-m l = Adds (λ s. starts_at l.t l.m s) l.initial.leads l.leads
