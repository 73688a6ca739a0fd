use Rattle.aprs_report.proofs.Common.{refl}
use Rattle.aprs_report.specs.Reader.{report_by_form, object_of, item_of, item_field_of, stamp_at, place_of, plain_of, compressed_of, table_at, base91_of, angle_of, minutes_of, numeral_of, cut_end, message_with, addressee_and_part_of, answer_at, text_and_id_of}
use Rattle.aprs_report.proofs.Readings.{computed}
use Rattle.aprs_report.proofs.examples.name_examples.Goals as goal

pub returns : goal.returns
unfolding report_by_form object_of item_of item_field_of stamp_at place_of plain_of compressed_of table_at base91_of angle_of minutes_of numeral_of cut_end message_with addressee_and_part_of answer_at text_and_id_of
returns c = record {
  object = computed refl;
  object_least = computed refl;
  object_rubout = computed refl;
  object_high = computed refl;
  object_highest = computed refl;
  object_control = computed refl;
  item = computed refl;
  item_least = computed refl;
  item_rubout = computed refl;
  item_high = computed refl;
  item_control = computed refl;
  addressee = computed refl;
  addressee_rubout = computed refl;
  addressee_high = computed refl;
  addressee_control = computed refl;
  no_addressee = computed refl;
  object_of_one_byte = computed refl;
  item_of_one_byte = computed refl;
  item_without_a_name = computed refl;
  addressee_of_one_byte = computed refl;
}
