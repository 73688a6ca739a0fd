use Rattle.aprs_summary.proofs.Common.{subst, Ordered}
use Rattle.aprs_summary.specs.Known.{IsEntryBefore}
use Rattle.aprs_summary.proofs.KnownSteps.{plain_ascend}
use Rattle.aprs_summary.proofs.known.index.Index.iter.Goals as goal

pub returns-clause-ascending : goal.returns-clause-ascending
returns-clause-ascending g c =
    subst (Ordered IsEntryBefore) c.self.view_is
    (plain_ascend (λ k. k.items) g.X.Kept.received c.self.inside.map.entries c.iter.ensures.ordered)
