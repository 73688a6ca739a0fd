-- Worked examples.
use Rattle.aprs_summary.proofs.Common.{◌≡◌, ℕ, ◌+◌, ◌<◌, true, false, Option, None, List, [], ◌∷◌, ◌++◌, codes, inl, inr, refl, sym, ap, ◌∙◌, arith, SpellsCall, Received, heard_cmp, message, ack, rej, IsUpTo, Key, IsBest, LastKnown, n0call, known_once, heard_total, up_to_itself, each_of}
use Rattle.aprs_report.specs.Reader.{report_by_form, message_with, addressee_and_part_of, answer_at, text_and_id_of, object_of, item_of, item_field_of, stamp_at, place_of, plain_of, angle_of, minutes_of, numeral_of, cut_end}
use Rattle.aprs_transmissions.specs.Key.{key_of}
use Rattle.aprs_ax25.proofs.Calls.{ssid_text-one}
use Rattle.aprs_summary.specs.declared.lists.message.MessageState.{MessageState}
use Rattle.aprs_summary.specs.Reports.{report_of}
use Rattle.aprs_summary.specs.Names.{ReportsOf}
use Rattle.aprs_summary.specs.Messages.{AnswersIt, IsAnsweredAt, ReportsIt, IsStateOf, answered_by, message_in, state_by}
use Rattle.aprs_summary.specs.Examples.{hi_message, one, asked_at, acknowledged_at, rejected_at, asked_again, object_at, killed_at, item_at}

-- ---- texts of callsigns

n0call_text : (ssid : ℕ) → 0 < ssid → ssid < 10
    → SpellsCall (n0call ssid) (codes "N0CALL" ++ (45 ∷ (48 + ssid) ∷ []))
n0call_text ssid some few = record {
  call = record { some = omega arith; most = omega arith; bytes = refl; ssid = omega arith };
  spelled = ap (λ text. codes "N0CALL" ++ text) (sym (ssid_text-one ssid some few));
}

pub seven_text : SpellsCall (n0call 7) (codes "N0CALL-7")
seven_text = n0call_text 7 (omega arith) (omega arith)

pub eight_text : SpellsCall (n0call 8) (codes "N0CALL-8")
eight_text = n0call_text 8 (omega arith) (omega arith)

-- ---- what frames report

pub asked_reads : report_of (key_of (asked_at 0).frame)
    ≡ message (codes "N0CALL-8") (codes "Hi") one
unfolding key_of report_by_form message_with addressee_and_part_of answer_at text_and_id_of cut_end
asked_reads = refl

pub acknowledged_reads : report_of (key_of (acknowledged_at 0).frame)
    ≡ ack (codes "N0CALL-7") (codes "1")
unfolding key_of report_by_form message_with addressee_and_part_of answer_at text_and_id_of cut_end
acknowledged_reads = refl

pub rejected_reads : report_of (key_of (rejected_at 0).frame) ≡ rej (codes "N0CALL-7") (codes "1")
unfolding key_of report_by_form message_with addressee_and_part_of answer_at text_and_id_of cut_end
rejected_reads = refl

pub asked_is : ReportsIt (hi_message one) (key_of (asked_at 0).frame)
unfolding key_of report_by_form message_with addressee_and_part_of answer_at text_and_id_of cut_end
asked_is = refl

pub acknowledged_is : message_in (key_of (acknowledged_at 0).frame) ≡ None
unfolding key_of report_by_form message_with addressee_and_part_of answer_at text_and_id_of cut_end
acknowledged_is = refl

-- ---- answers

-- a reception that answers
abbrev pub Answers : Key → Type 0
Answers = AnswersIt (hi_message one) (codes "1")

pub acknowledges : Answers (key_of (acknowledged_at 0).frame)
unfolding key_of
acknowledges = record {
  addressee = codes "N0CALL-7";
  sender = eight_text;
  to = seven_text;
  answer = inl acknowledged_reads;
}

pub rejects : Answers (key_of (rejected_at 0).frame)
unfolding key_of
rejects = record {
  addressee = codes "N0CALL-7";
  sender = eight_text;
  to = seven_text;
  answer = inr rejected_reads;
}

pub no_answer : Answers (key_of (asked_at 0).frame) → ⊥
no_answer a = elim a.answer [
  | inl e ↦ let d = sym asked_reads ∙ e in cc d
  | inr e ↦ let d = sym asked_reads ∙ e in cc d
]

-- if the one answers, it is up to the other
abbrev IsUpToIfAnswer : Received → Received → Type 0
IsUpToIfAnswer best s = Answers (key_of s.frame) → IsUpTo heard_cmp s best

pub none_answers : LastKnown (asked_at 0 ∷ []) Answers None
none_answers =
    each_of (λ (s : Received). Answers (key_of s.frame) → ⊥) (asked_at 0 ∷ []) (no_answer, tt)

-- the message at 7 and its acknowledgement
pub answered_at : (m : ℕ) → IsBest (asked_at 7 ∷ acknowledged_at m ∷ []) Answers (acknowledged_at m)
answered_at m = record {
  member = inr (inl refl);
  property = acknowledges;
  greatest =
      each_of (IsUpToIfAnswer (acknowledged_at m)) (asked_at 7 ∷ acknowledged_at m ∷ [])
      (λ a. absurd (no_answer a), (λ a. up_to_itself heard_total (acknowledged_at m), tt));
}

pub rejected_last : IsBest (asked_at 0 ∷ acknowledged_at 10 ∷ rejected_at 20 ∷ []) Answers
    (rejected_at 20)
rejected_last = record {
  member = inr (inr (inl refl));
  property = rejects;
  greatest =
      each_of (IsUpToIfAnswer (rejected_at 20))
      (asked_at 0 ∷ acknowledged_at 10 ∷ rejected_at 20 ∷ [])
      (λ a. absurd (no_answer a), (λ a. refl, (λ a. refl, tt)));
}

pub answered_once : IsBest asked_again Answers (acknowledged_at 10)
answered_once = record {
  member = inr (inl refl);
  property = acknowledges;
  greatest =
      each_of (IsUpToIfAnswer (acknowledged_at 10)) asked_again
      (λ a. absurd (no_answer a), (λ a. refl, (λ a. absurd (no_answer a), tt)));
}

-- a message has one state
pub one_state : (S : List Received) (first : ℕ) (a b : MessageState)
    → IsStateOf S (hi_message one) first one a → IsStateOf S (hi_message one) first one b → a ≡ b
one_state S first a b s t = s.2
    ∙ (ap (state_by first) (known_once S S Answers s.0 t.0 (λ x. (λ h. h, λ h. h)) s.1 t.1)
    ∙ sym t.2)

-- and it is answered at one moment
pub one_answer : (S : List Received) (first : ℕ) (a b : Option ℕ)
    → IsAnsweredAt S (hi_message one) first one a → IsAnsweredAt S (hi_message one) first one b
    → a ≡ b
one_answer S first a b s t = s.2
    ∙ (ap (answered_by first) (known_once S S Answers s.0 t.0 (λ x. (λ h. h, λ h. h)) s.1 t.1)
    ∙ sym t.2)

-- ---- objects and items

pub object_is : ReportsOf (record { is_item = false; name = codes "LEADER" })
    (key_of (object_at 0).frame)
unfolding key_of report_by_form object_of stamp_at place_of plain_of angle_of minutes_of numeral_of
    cut_end
object_is = refl

pub killed_is : ReportsOf (record { is_item = false; name = codes "LEADER" })
    (key_of (killed_at 0).frame)
unfolding key_of report_by_form object_of stamp_at place_of plain_of angle_of minutes_of numeral_of
    cut_end
killed_is = refl

pub item_is : ReportsOf (record { is_item = true; name = codes "LEADER" })
    (key_of (item_at 0).frame)
unfolding key_of report_by_form item_of item_field_of place_of plain_of angle_of minutes_of numeral_of
    cut_end
item_is = refl
