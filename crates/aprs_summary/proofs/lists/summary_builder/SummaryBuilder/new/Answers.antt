use Rattle.aprs_summary.proofs.Collected.{collected_first}
use Rattle.aprs_summary.proofs.Stations.{no_keys}
use Rattle.aprs_summary.proofs.lists.summary_builder.SummaryBuilder.new.Goals as goal

pub returns : goal.returns
returns g c = record {
  notes = c.new.ensures;
  tallies = collected_first _ _ _ _ c.new-2.ensures;
  sorted = no_keys _ c.new-2.ensures;
  exchange = c.new-3.ensures;
}
