use Rattle.aprs_summary.proofs.Common.{◌≡◌, ℕ, List, [], ◌∷◌, codes, inl, inr, refl, sym, ap, ◌∙◌, arith, Value, ack, rej}
use Rattle.aprs_report.specs.Reader.{report_by_form, message_with, addressee_and_part_of, answer_at, text_and_id_of, cut_end}
use Rattle.aprs_summary.proofs.Worked.{seven_text, eight_text}
use Rattle.aprs_summary.proofs.examples.messages.addressees_answer.Goals as goal

-- the id of an answer
abbrev id_of : Value → List ℕ
id_of (ack addressee id) = id
id_of (rej addressee id) = id
id_of v = []

-- the addressee of an answer
abbrev to_of : Value → List ℕ
to_of (ack addressee id) = addressee
to_of (rej addressee id) = addressee
to_of v = []

-- the last of eight bytes
abbrev eighth : List ℕ → ℕ
eighth (a ∷ b ∷ c ∷ d ∷ e ∷ f ∷ g ∷ h ∷ more) = h
eighth bytes = 0

-- the first byte
abbrev first : List ℕ → ℕ
first [] = 0
first (b ∷ more) = b

pub returns : goal.returns
unfolding report_by_form message_with addressee_and_part_of answer_at text_and_id_of cut_end
returns c = record {
  acknowledged = record {
    addressee = codes "N0CALL-7";
    sender = eight_text;
    to = seven_text;
    answer = inl refl;
  };
  rejected = record {
    addressee = codes "N0CALL-7";
    sender = eight_text;
    to = seven_text;
    answer = inr refl;
  };
  misses_id = λ a. elim a.answer [
    | inl e ↦ let n : 50 ≡ 49 = ap (λ v. first (id_of v)) e in omega (arith, n)
    | inr e ↦ let n : 50 ≡ 49 = ap (λ v. first (id_of v)) e in omega (arith, n)
  ];
  misses_sender = λ a.
      let n : 56 ≡ 55 = ap eighth (a.sender.spelled ∙ sym seven_text.spelled) in
      omega (arith, n);
  misses_addressee = λ a. let to = a.to.spelled ∙ sym seven_text.spelled in
      elim a.answer [
        | inl e ↦ let n : 56 ≡ 55 = ap (λ v. eighth (to_of v)) e ∙ ap eighth to in omega (arith, n)
        | inr e ↦ let n : 56 ≡ 55 = ap (λ v. eighth (to_of v)) e ∙ ap eighth to in omega (arith, n)
      ];
}
