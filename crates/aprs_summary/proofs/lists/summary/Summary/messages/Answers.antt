use Rattle.aprs_summary.proofs.Common.{subst, BookValue, millis_of}
use Rattle.aprs_summary.specs.Messages.{ReportsMessages}
use Rattle.aprs_summary.proofs.lists.summary.Summary.messages.Goals as goal

pub returns : goal.returns
returns g c =
    subst (λ (b : BookValue). ReportsMessages (millis_of b.gap) b.rows c.of.result)
    c.self.view_is (c.of.ensures.messages _ _ c.self.invariant.2)
