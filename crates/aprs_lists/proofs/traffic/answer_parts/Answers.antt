use Rattle.aprs_lists.proofs.Common.{◌∙◌, Some, ap, subst, sym, Value}
use Rattle.std.proofs.Common.{true, false}
use Rattle.std.specs.Option.{option_map}
use Rattle.aprs_report.specs.Reading.{message}
use Rattle.aprs_summary.specs.ReplyTexts.{HoldsOnly}
use Rattle.aprs_lists.specs.Traffic.{Answering, SaysAnswer}
use Rattle.aprs_lists.proofs.TrafficGiven.{reply_only}
use Rattle.aprs_lists.proofs.traffic.answer_parts.Goals as goal

pub returns-in_ok-number-in-Message-default-default-None :
    goal.returns-in_ok-number-in-Message-default-default-None
returns-in_ok-number-in-Message-default-default-None c =
    let m = c.in-Message-default-default-None in
    let number = c.in_ok-number-in-Message-default-default-None.number.now in
    subst (λ (v : Value). HoldsOnly (λ (a : Answering). SaysAnswer a v) (Some (record {
      addressee = m.addressee.now;
      number = number;
      is_reply = true;
      is_rejection = false;
    }))) (sym (ap (λ o. message m.addressee.now m.text.now (option_map (λ x. x.now) o)) m.id-is)
    ∙ m.ensures.value)
    (reply_only m.addressee.now m.text.now number c.in_ok-number-in-Message-default-default-None.ensures)
