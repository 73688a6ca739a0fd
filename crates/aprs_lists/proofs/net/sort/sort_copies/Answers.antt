use Rattle.aprs_lists.proofs.CopyOrder.{copies_alike, copies_sorted}
use Rattle.aprs_lists.proofs.Orders.{same_members}
use Rattle.aprs_lists.proofs.net.sort.sort_copies.Goals as goal

pub returns : goal.returns
returns g c = record {
  ordered = copies_sorted _ copies_alike _ c.sort_unstable.ensures.sorted;
  same = same_members _ _ c.sort_unstable.ensures.permutation;
}
