use Rattle.aprs_summary.proofs.Common.{sym, subst}
use Rattle.aprs_summary.specs.StationRows.{AreTallies}
use Rattle.aprs_summary.proofs.lists.summary_builder.SummaryBuilder.into_summary.Goals as goal

pub invariant_of-result : goal.invariant_of-result
invariant_of-result g c = (
  c.in_ok-indexes.ensures c.args.store.now.rows c.requires.notes,
  subst (AreTallies c.args.store.now.rows) (sym c.in_ok-tallies.ensures) c.requires.tallies,
  c.requires.exchange,
)
