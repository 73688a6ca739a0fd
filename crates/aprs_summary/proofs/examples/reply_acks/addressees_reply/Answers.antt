use Rattle.aprs_summary.proofs.Common.{◌≡◌, ◌∙◌, ℕ, List, [], codes, refl, sym, subst, ap, arith, inl, inr, Value, message}
use Rattle.aprs_report.specs.Reader.{report_by_form, message_with, addressee_and_part_of, answer_at, text_and_id_of, cut_end}
use Rattle.aprs_summary.specs.ReplyAcks.{IsReplyAckText}
use Rattle.aprs_summary.proofs.ReplyTexts.{byte_at, one_acknowledged}
use Rattle.aprs_summary.proofs.Worked.{seven_text, eight_text}
use Rattle.aprs_summary.proofs.WorkedReplies.{ack_is, yes_is}
use Rattle.aprs_summary.proofs.examples.reply_acks.addressees_reply.Goals as goal

-- the addressee of a message
abbrev to_of : Value → List ℕ
to_of (message addressee text id) = addressee
to_of v = []

-- its text
abbrev text_of : Value → List ℕ
text_of (message addressee text id) = text
text_of v = []

pub returns : goal.returns
unfolding report_by_form message_with addressee_and_part_of answer_at text_and_id_of cut_end
returns c = record {
  text = record {
    addressee = codes "N0CALL-7";
    text = codes "Yes{20}19";
    sender = eight_text;
    to = seven_text;
    says = refl;
    acknowledges = record { a_number = refl; reply = inl (codes "20", yes_is) };
  };
  ack = record {
    addressee = codes "N0CALL-7";
    text = codes "ack19}";
    sender = eight_text;
    to = seven_text;
    says = refl;
    acknowledges = record { a_number = refl; reply = inr ack_is };
  };
  misses_number = λ a.
      let t : codes "ack20}" ≡ a.text = ap text_of a.says in
      let n : 50 ≡ 49 = ap (byte_at 0)
      (one_acknowledged (codes "ack20}") (codes "20") (codes "19")
      (record { acknowledged = []; a_number = refl; a_number_or_nothing = refl; whole = refl })
      (subst (IsReplyAckText (codes "19")) (sym t) a.acknowledges)) in
      omega (arith, n);
  misses_id = λ a. let d = a.says in cc d;
  misses_sender = λ a.
      let n : 56 ≡ 55 = ap (byte_at 7) (a.sender.spelled ∙ sym seven_text.spelled) in
      omega (arith, n);
  misses_addressee = λ a.
      let n : 56 ≡ 55 = ap (λ v. byte_at 7 (to_of v)) a.says
      ∙ ap (byte_at 7) (a.to.spelled ∙ sym seven_text.spelled) in
      omega (arith, n);
}
