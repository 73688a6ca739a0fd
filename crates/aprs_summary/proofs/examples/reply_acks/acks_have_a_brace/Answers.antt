use Rattle.aprs_summary.proofs.Common.{◌≡◌, true, false, [], codes, drop, refl, ap, arith, ◌∙◌}
use Rattle.aprs_summary.specs.ReplyAcks.{is_number_or_nothing}
use Rattle.aprs_summary.proofs.ReplyTexts.{byte_at}
use Rattle.aprs_summary.proofs.examples.reply_acks.acks_have_a_brace.Goals as goal

pub returns : goal.returns
returns c = record {
  alone = record {
    acknowledged = [];
    a_number = refl;
    a_number_or_nothing = refl;
    whole = refl;
  };
  with_another = record {
    acknowledged = codes "AB";
    a_number = refl;
    a_number_or_nothing = refl;
    whole = refl;
  };
  misses_id = λ h. let n : 0 ≡ 125 = ap (byte_at 5) h.whole in omega (arith, n);
  misses_word = λ h. let n : 65 ≡ 97 = ap (byte_at 0) h.whole in omega (arith, n);
  misses_three = λ h. let e : false ≡ true = h.a_number in cc e;
  misses_three_after = λ h.
      let e : codes "ABC" ≡ h.acknowledged = ap (drop 6) h.whole in
      let f : false ≡ true = ap is_number_or_nothing e ∙ h.a_number_or_nothing in cc f;
}
