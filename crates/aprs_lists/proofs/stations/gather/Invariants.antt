use Rattle.aprs_summary.specs.SummaryBuilder.{IsBuilderOf}
use Rattle.aprs_summary.proofs.Collected.{SoFar}
use Rattle.aprs_lists.specs.Activity.{AreActivities}
use Rattle.aprs_lists.proofs.stations.gather.Given as goal

abbrev pub invariant-loop-row : goal.invariant-loop-row
invariant-loop-row g l = record {
  said : SoFar (λ done. IsBuilderOf done l.builder) l.fn.rows.rows l.row-iterator.rows;
  active : SoFar (λ done. AreActivities done l.activities) l.fn.rows.rows l.row-iterator.rows;
}
