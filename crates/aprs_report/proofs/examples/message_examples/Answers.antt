use Rattle.aprs_report.proofs.Common.{refl}
use Rattle.aprs_report.specs.Reader.{report_by_form, message_with, addressee_and_part_of, answer_at, text_and_id_of}
use Rattle.aprs_report.specs.Reader.{cut_end}
use Rattle.aprs_report.proofs.Readings.{computed}
use Rattle.aprs_report.proofs.examples.message_examples.Goals as goal

pub returns : goal.returns
unfolding report_by_form message_with addressee_and_part_of answer_at text_and_id_of cut_end
returns c = record {
  numbered = computed refl;
  line_end = computed refl;
  line_feed = computed refl;
  longest_id = computed refl;
  last_brace = computed refl;
  reply_ack = computed refl;
  long_id = computed refl;
  empty_id = computed refl;
  id_of_all_kinds = computed refl;
  id_to_z = computed refl;
  before_digits = computed refl;
  after_digits = computed refl;
  before_capitals = computed refl;
  after_capitals = computed refl;
  before_letters = computed refl;
  after_letters = computed refl;
  acks = computed refl;
  rejects = computed refl;
  long_answer = computed refl;
  capital_ack = computed refl;
  ack_without_id = computed refl;
}
