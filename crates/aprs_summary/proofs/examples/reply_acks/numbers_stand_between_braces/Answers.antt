use Rattle.aprs_summary.proofs.Common.{◌≡◌, true, false, [], codes, refl, ap, arith}
use Rattle.aprs_summary.proofs.ReplyTexts.{byte_at, whole_tail}
use Rattle.aprs_summary.proofs.examples.reply_acks.numbers_stand_between_braces.Goals as goal

pub returns : goal.returns
returns c = record {
  alone = record {
    body = codes "Hi";
    a_number = refl;
    a_number_or_nothing = refl;
    whole = refl;
  };
  with_another = record {
    body = codes "Hi";
    a_number = refl;
    a_number_or_nothing = refl;
    whole = refl;
  };
  of_one_byte = record {
    body = [];
    a_number = refl;
    a_number_or_nothing = refl;
    whole = refl;
  };
  misses_none = λ h. let e : false ≡ true = h.a_number in cc e;
  misses_three = λ h. let e : false ≡ true = h.a_number in cc e;
  misses_sign = λ h. let e : false ≡ true = h.a_number in cc e;
  misses_three_after = λ h. let e : false ≡ true = h.a_number_or_nothing in cc e;
  misses_sign_after = λ h. let e : false ≡ true = h.a_number_or_nothing in cc e;
  misses_open = λ h.
      let e = whole_tail (codes "(19}") h.body (codes "{19}") h.whole refl in
      let n : 40 ≡ 123 = ap (byte_at 0) e in
      omega (arith, n);
  misses_close = λ h.
      let e = whole_tail (codes "{19)") h.body (codes "{19}") h.whole refl in
      let n : 41 ≡ 125 = ap (byte_at 3) e in
      omega (arith, n);
}
