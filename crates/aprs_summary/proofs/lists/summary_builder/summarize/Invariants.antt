use Rattle.aprs_summary.specs.SummaryBuilder.{IsBuilderOf}
use Rattle.aprs_summary.proofs.Collected.{SoFar}
use Rattle.aprs_summary.proofs.lists.summary_builder.summarize.Given as goal

abbrev pub invariant-loop-row : goal.invariant-loop-row
invariant-loop-row g l = SoFar (λ done. IsBuilderOf done l.builder) l.fn.rows.rows l.row-iterator.rows
