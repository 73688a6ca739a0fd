use Rattle.aprs_summary.proofs.Common.{[], refl}
use Rattle.aprs_summary.proofs.WorkedReplies.{hi_is}
use Rattle.aprs_summary.proofs.examples.reply_acks.messages_with_an_id_have_no_number.Goals as goal

pub returns : goal.returns
returns c = record {
  number = (refl, ([], hi_is));
  misses_id = λ h. cc (h.0);
}
