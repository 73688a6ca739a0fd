use Rattle.aprs_lists.proofs.Common.{refl}
use Rattle.aprs_lists.specs.Class.{is_ack_text, is_bulletin_of, is_ended_number}
use Rattle.aprs_lists.proofs.examples.classes.texts_have_classes.Goals as goal

pub returns : goal.returns
unfolding is_ack_text is_bulletin_of is_ended_number
returns c = record {
  telemetry = refl;
  queries = refl;
  telemetry_with_an_id = refl;
  query_with_an_id = refl;
}
