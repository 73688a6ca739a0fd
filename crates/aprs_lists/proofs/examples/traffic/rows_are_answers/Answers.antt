use Rattle.aprs_lists.proofs.Common.{[], None, Some, codes, inl, inr, refl}
use Rattle.aprs_details.proofs.Lacking.{none_some}
use Rattle.aprs_details.specs.ThirdParty.{passed_of}
use Rattle.aprs_io.specs.Cut.{cut_at}
use Rattle.aprs_report.specs.Reader.{addressee_and_part_of, answer_at, cut_end, message_with, report_by_form, text_and_id_of}
use Rattle.aprs_summary.proofs.Worked.{seven_text}
use Rattle.aprs_transmissions.specs.Examples.{n0call}
use Rattle.aprs_transmissions.specs.Key.{key_of}
use Rattle.aprs_lists.specs.Traffic.{by_ack, by_rej, by_reply}
use Rattle.aprs_lists.proofs.examples.traffic.rows_are_answers.Goals as goal

pub returns-clause-ack : goal.returns-clause-ack
unfolding key_of passed_of cut_at report_by_form message_with addressee_and_part_of answer_at text_and_id_of cut_end
returns-clause-ack c = record {
  said = record { source = n0call 8; gate = None; info = codes ":N0CALL-7 :ack1" };
  is_said = refl;
  addressee = codes "N0CALL-7";
  answer = by_ack refl refl refl;
  answerer = refl;
  to = seven_text;
  moment = refl;
}

pub returns-clause-rej : goal.returns-clause-rej
unfolding key_of passed_of cut_at report_by_form message_with addressee_and_part_of answer_at text_and_id_of cut_end
returns-clause-rej c = record {
  said = record { source = n0call 8; gate = None; info = codes ":N0CALL-7 :rej1" };
  is_said = refl;
  addressee = codes "N0CALL-7";
  answer = by_rej refl refl refl;
  answerer = refl;
  to = seven_text;
  moment = refl;
}

pub returns-clause-passed_on : goal.returns-clause-passed_on
unfolding key_of passed_of cut_at report_by_form message_with addressee_and_part_of answer_at text_and_id_of cut_end
returns-clause-passed_on c = record {
  said = record { source = n0call 8; gate = Some (n0call 1); info = codes ":N0CALL-7 :ack1" };
  is_said = refl;
  addressee = codes "N0CALL-7";
  answer = by_ack refl refl refl;
  answerer = refl;
  to = seven_text;
  moment = refl;
}

pub returns-clause-reply_ack : goal.returns-clause-reply_ack
unfolding key_of passed_of cut_at report_by_form message_with addressee_and_part_of answer_at text_and_id_of cut_end
returns-clause-reply_ack c = record {
  said = record { source = n0call 8; gate = None; info = codes ":N0CALL-7 :ack1}" };
  is_said = refl;
  addressee = codes "N0CALL-7";
  answer = by_reply (codes "ack1}") refl
      (record {
        a_number = refl;
        reply = inr (record {
          acknowledged = [];
          a_number = refl;
          a_number_or_nothing = refl;
          whole = refl;
        });
      }) refl refl;
  answerer = refl;
  to = seven_text;
  moment = refl;
}

pub returns-clause-with_a_reply : goal.returns-clause-with_a_reply
unfolding key_of passed_of cut_at report_by_form message_with addressee_and_part_of answer_at text_and_id_of cut_end
returns-clause-with_a_reply c = record {
  said = record { source = n0call 8; gate = None; info = codes ":N0CALL-7 :Hi{5}1" };
  is_said = refl;
  addressee = codes "N0CALL-7";
  answer = by_reply (codes "Hi{5}1") refl
      (record {
        a_number = refl;
        reply = inl (
          codes "5",
          record {
            body = codes "Hi";
            a_number = refl;
            a_number_or_nothing = refl;
            whole = refl;
          },
        );
      }) refl refl;
  answerer = refl;
  to = seven_text;
  moment = refl;
}

pub returns-clause-misses_callsign : goal.returns-clause-misses_callsign
unfolding key_of passed_of cut_at report_by_form message_with addressee_and_part_of answer_at text_and_id_of cut_end
returns-clause-misses_callsign c a h = none_some h.said h.is_said
