use Rattle.aprs_lists.proofs.Common.{refl}
use Rattle.aprs_lists.specs.Class.{is_ack_text, is_bulletin_of, is_ended_number}
use Rattle.aprs_lists.proofs.examples.classes.answers_have_a_class.Goals as goal

pub returns : goal.returns
unfolding is_ack_text is_bulletin_of is_ended_number
returns c = record {
  reads = refl;
  misses = refl;
  misses_id = refl;
}
