use Rattle.aprs_lists.proofs.Common.{◌≡◌, None, Some, codes, refl, subst, sym}
use Rattle.aprs_details.proofs.Lacking.{none_some}
use Rattle.aprs_details.specs.ThirdParty.{passed_of}
use Rattle.aprs_io.specs.Cut.{cut_at}
use Rattle.aprs_report.proofs.Steps.{some_is}
use Rattle.aprs_report.specs.Reader.{addressee_and_part_of, answer_at, cut_end, message_with, reading_of, report_by_form, text_and_id_of}
use Rattle.aprs_summary.specs.Messages.{reported_message}
use Rattle.aprs_transmissions.specs.Examples.{n0call}
use Rattle.aprs_transmissions.specs.Key.{key_of}
use Rattle.aprs_lists.specs.Said.{Said}
use Rattle.aprs_lists.proofs.examples.traffic.rows_are_copies.Goals as goal

pub returns-clause-heard : goal.returns-clause-heard
unfolding key_of passed_of cut_at report_by_form message_with addressee_and_part_of answer_at text_and_id_of cut_end
returns-clause-heard c = record {
  said = record { source = n0call 7; gate = None; info = codes ":N0CALL-8 :Hi{1" };
  is_said = refl;
  message = refl;
  gate = refl;
  first = refl;
  last = refl;
}

pub returns-clause-passed_on : goal.returns-clause-passed_on
unfolding key_of passed_of cut_at report_by_form message_with addressee_and_part_of answer_at text_and_id_of cut_end
returns-clause-passed_on c = record {
  said = record { source = n0call 7; gate = Some (n0call 1); info = codes ":N0CALL-8 :Hi{1" };
  is_said = refl;
  message = refl;
  gate = refl;
  first = refl;
  last = refl;
}

pub returns-clause-misses_callsign : goal.returns-clause-misses_callsign
unfolding key_of passed_of cut_at report_by_form message_with addressee_and_part_of answer_at text_and_id_of cut_end
returns-clause-misses_callsign c copy h = none_some h.said h.is_said

-- what N0CALL-8 says
abbrev acknowledges : Said
acknowledges = record { source = n0call 8; gate = None; info = codes ":N0CALL-7 :ack1" }

pub returns-clause-misses_ack : goal.returns-clause-misses_ack
unfolding key_of passed_of cut_at report_by_form message_with addressee_and_part_of answer_at text_and_id_of cut_end
returns-clause-misses_ack c copy h = none_some copy.message
    (subst (λ (s : Said). reported_message s.source (reading_of s.info) ≡ Some copy.message)
    (sym (some_is acknowledges h.said h.is_said)) h.message)
