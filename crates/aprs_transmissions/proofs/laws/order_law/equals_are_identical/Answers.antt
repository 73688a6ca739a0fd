use Rattle.aprs_transmissions.proofs.Orders.{call_exact, key_exact, heard_exact}
use Rattle.aprs_transmissions.proofs.laws.order_law.equals_are_identical.Goals as goal

pub returns : goal.returns
returns c = record {
  callsigns = call_exact;
  keys = key_exact;
  receptions = heard_exact;
}
