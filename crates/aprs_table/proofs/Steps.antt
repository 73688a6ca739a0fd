-- The steps with which a line is computed.
use Rattle.aprs_table.proofs.Common.{Row, List, ℕ}
use Rattle.aprs_table.specs.Table.{table_line}
use Rattle.aprs_details.proofs.Steps.{said_of}
use Rattle.aprs_log.specs.Moment.{day_after, moment_text_in}
use Rattle.aprs_mice.specs.Reader.{ambiguity_of_spaces, destination_of, longitude_of_octets, mic_e_or_none, motion_of, position_mark_of}
use Rattle.aprs_report.specs.Reader.{addressee_and_part_of, angle_of, answer_at, base91_of, compressed_of, cut_end, item_field_of, item_of, message_with, minutes_of, object_of, place_of, plain_of, position_of, report_by_form, stamp_at, stamped_position_of, table_at, text_and_id_of, utc_at}
use Rattle.aprs_table.specs.Told.{passed_told_of, told_of}
use Rattle.hex.specs.Hex.{encode_with}

-- The line of a row. Whoever unfolds this computes it.
unfoldable pub line_of : Row → List ℕ
unfolding addressee_and_part_of ambiguity_of_spaces angle_of answer_at base91_of compressed_of cut_end day_after destination_of encode_with item_field_of item_of longitude_of_octets message_with mic_e_or_none minutes_of moment_text_in motion_of object_of passed_told_of place_of plain_of position_mark_of position_of report_by_form said_of stamp_at stamped_position_of table_at text_and_id_of told_of utc_at
line_of x = table_line x
