use Rattle.aprs_lists.proofs.Common.{refl}
use Rattle.std.specs.Fmt.{digits}
use Rattle.aprs_report.specs.Reader.{addressee_and_part_of, angle_of, answer_at, base91_of, compressed_of, cut_end, item_field_of, item_of, message_with, minutes_of, numeral_of, object_of, place_of, plain_of, position_of, report_by_form, stamp_at, stamped_position_of, table_at, text_and_id_of, utc_at}
use Rattle.aprs_transmissions.specs.Key.{key_of}
use Rattle.aprs_lists.proofs.examples.columns.things_have_columns.Goals as goal

pub returns-clause-object : goal.returns-clause-object
unfolding addressee_and_part_of angle_of answer_at base91_of compressed_of cut_end item_field_of item_of message_with minutes_of numeral_of object_of place_of plain_of position_of report_by_form stamp_at stamped_position_of table_at text_and_id_of utc_at digits key_of
returns-clause-object c = refl

pub returns-clause-item : goal.returns-clause-item
unfolding addressee_and_part_of angle_of answer_at base91_of compressed_of cut_end item_field_of item_of message_with minutes_of numeral_of object_of place_of plain_of position_of report_by_form stamp_at stamped_position_of table_at text_and_id_of utc_at digits key_of
returns-clause-item c = refl

pub returns-clause-misses_others : goal.returns-clause-misses_others
unfolding addressee_and_part_of angle_of answer_at base91_of compressed_of cut_end item_field_of item_of message_with minutes_of numeral_of object_of place_of plain_of position_of report_by_form stamp_at stamped_position_of table_at text_and_id_of utc_at digits key_of
returns-clause-misses_others c = refl
