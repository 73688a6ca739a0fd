use Rattle.aprs_summary.proofs.Collected.{collected_first}
use Rattle.aprs_summary.proofs.lists.exchange.Exchange.new.Goals as goal

pub returns : goal.returns
returns g c = record {
  spans = collected_first _ _ _ _ c.new.ensures.empty;
  answers = collected_first _ _ _ _ c.new-2.ensures.empty;
}
