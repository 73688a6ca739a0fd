use Rattle.aprs_summary.proofs.Common.{subst, BookValue}
use Rattle.aprs_summary.specs.SummaryBuilder.{IsBuilderOf}
use Rattle.aprs_summary.proofs.lists.summary.Summary.of.Goals as goal

pub into_summary-requires : goal.into_summary-requires
into_summary-requires g c =
    subst (λ (b : BookValue). IsBuilderOf b.rows c.in_ok-builder.builder) c.in_ok-rows.ensures.book
    c.in_ok-builder.ensures
