use Rattle.aprs_summary.proofs.Common.{◌≡◌, true, false, codes, refl, ap, arith, inl, inr}
use Rattle.aprs_summary.proofs.ReplyTexts.{byte_at, one_replied}
use Rattle.aprs_summary.proofs.WorkedReplies.{yes_is}
use Rattle.aprs_summary.proofs.examples.reply_acks.texts_reply_to_one_number.Goals as goal

pub returns : goal.returns
returns c = record {
  text = record { a_number = refl; reply = inl (codes "20", yes_is) };
  ack = record {
    a_number = refl;
    reply =
        inr (record {
          acknowledged = codes "19";
          a_number = refl;
          a_number_or_nothing = refl;
          whole = refl;
        });
  };
  misses_own = λ h.
      let n : 49 ≡ 50 = ap (byte_at 0)
      (one_replied (codes "Yes{20}19") (codes "20", codes "19") (codes "20") yes_is h) in
      omega (arith, n);
  misses_nothing = λ h. let e : false ≡ true = h.a_number in cc e;
}
