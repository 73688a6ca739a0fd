use Rattle.aprs_transmissions.proofs.Orders.{call_total, key_total, heard_total}
use Rattle.aprs_transmissions.proofs.Books.{row_total}
use Rattle.aprs_transmissions.proofs.laws.order_law.orders_are_total.Goals as goal

pub returns : goal.returns
returns c = record {
  callsigns = call_total;
  keys = key_total;
  receptions = heard_total;
  rows = row_total;
}
