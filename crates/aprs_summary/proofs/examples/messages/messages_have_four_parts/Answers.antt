use Rattle.aprs_summary.proofs.Common.{◌≡◌, Option, refl, ap, arith, option_map_or}
use Rattle.aprs_report.specs.Reader.{report_by_form, message_with, addressee_and_part_of, answer_at, text_and_id_of, cut_end}
use Rattle.aprs_summary.specs.Messages.{Message}
use Rattle.aprs_summary.proofs.examples.messages.messages_have_four_parts.Goals as goal

pub returns : goal.returns
unfolding report_by_form message_with addressee_and_part_of answer_at text_and_id_of cut_end
returns c = record {
  numbered = refl;
  line_end = refl;
  unnumbered = refl;
  answer = refl;
  misses_source = λ e.
      let n : 9 ≡ 7 = ap (λ (o : Option Message). option_map_or (λ m. m.source.ssid) o 0) e in
      omega (arith, n);
}
