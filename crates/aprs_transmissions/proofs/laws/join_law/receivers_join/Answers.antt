use Rattle.aprs_transmissions.proofs.Common.{bytes_cmp}
use Rattle.aprs_transmissions.specs.Lists.{Ordered}
use Rattle.aprs_transmissions.specs.Order.{IsBelow}
use Rattle.aprs_transmissions.specs.Joining.{AreAny, IsUnited}
use Rattle.aprs_transmissions.proofs.Orders.{bytes_total, bytes_exact}
use Rattle.aprs_transmissions.proofs.Joins.{receivers_laws}
use Rattle.aprs_transmissions.proofs.Folds.{fold_same}
use Rattle.aprs_transmissions.proofs.Merges.{merged_is_united}
use Rattle.aprs_transmissions.proofs.laws.join_law.receivers_join.Goals as goal

pub returns : goal.returns
returns c = record {
  laws = receivers_laws bytes_total bytes_exact;
  folds = fold_same (Ordered (IsBelow bytes_cmp)) AreAny (IsUnited bytes_cmp)
      (receivers_laws bytes_total bytes_exact);
  one_pass = merged_is_united bytes_total bytes_exact;
}
