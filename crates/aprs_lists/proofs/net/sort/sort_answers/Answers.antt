use Rattle.aprs_lists.proofs.Common.{on_total}
use Rattle.aprs_lists.specs.Answers.{reply_of}
use Rattle.aprs_lists.proofs.FirstAnswers.{reply_total}
use Rattle.aprs_lists.proofs.Orders.{same_members, sorted_ordered}
use Rattle.aprs_lists.proofs.net.sort.sort_answers.Goals as goal

pub returns : goal.returns
returns g c = record {
  ordered = sorted_ordered (on_total reply_of reply_total) _ c.sort_unstable.ensures.sorted;
  same = same_members _ _ c.sort_unstable.ensures.permutation;
}
