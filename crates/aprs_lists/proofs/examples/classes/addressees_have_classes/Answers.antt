use Rattle.aprs_lists.proofs.Common.{refl}
use Rattle.aprs_lists.specs.Class.{is_ack_text, is_bulletin_of, is_ended_number}
use Rattle.aprs_lists.proofs.examples.classes.addressees_have_classes.Goals as goal

pub returns : goal.returns
unfolding is_ack_text is_bulletin_of is_ended_number
returns c = record {
  bulletins = refl;
  announcements = refl;
  of_the_weather = refl;
  before_text = refl;
  announcement_before_text = refl;
  weather_before_text = refl;
}
