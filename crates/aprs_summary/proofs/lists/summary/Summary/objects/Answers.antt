use Rattle.aprs_summary.proofs.Common.{◌∙◌, subst, BookValue, millis_of}
use Rattle.aprs_summary.specs.Names.{ReportsNamed}
use Rattle.aprs_summary.proofs.Things.{named_of_indexes}
use Rattle.aprs_summary.proofs.lists.summary.Summary.objects.Goals as goal

pub returns : goal.returns
returns g c = λ xs e.
    subst (λ (b : BookValue). ReportsNamed (millis_of b.gap) b.rows xs) c.self.view_is
    (named_of_indexes _ _ c.self.inside.indexes c.self.invariant.0 c.of.ensures.objects
    c.of.ensures.items xs (e ∙ c.of.ensures.reports))
