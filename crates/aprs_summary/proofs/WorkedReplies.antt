-- Worked examples of reply-acks.
use Rattle.aprs_summary.proofs.Common.{◌≡◌, ℕ, None, List, [], ◌∷◌, codes, inl, inr, refl, sym, subst, ap, ◌∙◌, Received, Key, Value, message, ack, IsBest, IsUpTo, LastKnown, heard_cmp, heard_total, up_to_itself, each_of}
use Rattle.aprs_report.specs.Reader.{report_by_form, message_with, addressee_and_part_of, answer_at, text_and_id_of, cut_end}
use Rattle.aprs_transmissions.specs.Key.{key_of}
use Rattle.aprs_summary.specs.declared.lists.reply_ack.ReplyAck.{ReplyAck}
use Rattle.aprs_summary.specs.Reports.{report_of}
use Rattle.aprs_summary.specs.Messages.{HasNumber, IsReplyAckOf, RepliesTo}
use Rattle.aprs_summary.specs.ReplyAcks.{IsAckText, IsNumberedText, IsReplyAckText}
use Rattle.aprs_summary.specs.Examples.{numbered_message, numbered_at, replied_at, other_ack_at}
use Rattle.aprs_summary.proofs.OneReplyAck.{reply_ack_once}
use Rattle.aprs_summary.proofs.ReplyTexts.{no_reply_of}
use Rattle.aprs_summary.proofs.Worked.{seven_text, eight_text}

-- ---- texts

pub yes_is : IsNumberedText (codes "20") (codes "19") (codes "Yes{20}19")
yes_is = record { body = codes "Yes"; a_number = refl; a_number_or_nothing = refl; whole = refl }

pub hi_is : IsNumberedText (codes "19") [] (codes "Hi{19}")
hi_is = record { body = codes "Hi"; a_number = refl; a_number_or_nothing = refl; whole = refl }

pub ack_is : IsAckText (codes "19") (codes "ack19}")
ack_is = record { acknowledged = []; a_number = refl; a_number_or_nothing = refl; whole = refl }

pub has_number : HasNumber numbered_message (codes "19")
has_number = (refl, ([], hi_is))

-- ---- what frames report

numbered_reads : report_of (key_of (numbered_at 0).frame)
    ≡ message (codes "N0CALL-8") (codes "Hi{19}") None
unfolding key_of report_by_form message_with addressee_and_part_of answer_at text_and_id_of cut_end
numbered_reads = refl

replied_reads : report_of (key_of (replied_at 0).frame)
    ≡ message (codes "N0CALL-7") (codes "Yes{20}19") None
unfolding key_of report_by_form message_with addressee_and_part_of answer_at text_and_id_of cut_end
replied_reads = refl

other_reads : report_of (key_of (other_ack_at 0).frame) ≡ ack (codes "N0CALL-7") (codes "19")
unfolding key_of report_by_form message_with addressee_and_part_of answer_at text_and_id_of cut_end
other_reads = refl

-- ---- reply-acks

abbrev Replies : Key → Type 0
Replies = RepliesTo numbered_message (codes "19")

replies : Replies (key_of (replied_at 0).frame)
unfolding key_of
replies = record {
  addressee = codes "N0CALL-7";
  text = codes "Yes{20}19";
  sender = eight_text;
  to = seven_text;
  says = replied_reads;
  acknowledges = record { a_number = refl; reply = inl (codes "20", yes_is) };
}

-- the text of a message
abbrev text_of : Value → List ℕ
text_of (message addressee text id) = text
text_of v = []

no_replies : Replies (key_of (numbered_at 0).frame) → ⊥
no_replies a =
    let t : codes "Hi{19}" ≡ a.text = ap text_of (sym numbered_reads ∙ a.says) in
    no_reply_of (codes "Hi{19}") (codes "19") hi_is (codes "19")
    (subst (IsReplyAckText (codes "19")) (sym t) a.acknowledges)

no_reply_by_id : Replies (key_of (other_ack_at 0).frame) → ⊥
no_reply_by_id a = let d = sym other_reads ∙ a.says in cc d

abbrev IsUpToIfReply : Received → Received → Type 0
IsUpToIfReply best s = Replies (key_of s.frame) → IsUpTo heard_cmp s best

pub other_ack : LastKnown (numbered_at 0 ∷ other_ack_at 10 ∷ []) Replies None
other_ack =
    each_of (λ (s : Received). Replies (key_of s.frame) → ⊥) (numbered_at 0 ∷ other_ack_at 10 ∷ [])
    (no_replies, (no_reply_by_id, tt))

pub replied_then : (m : ℕ) → IsBest (numbered_at 7 ∷ replied_at m ∷ []) Replies (replied_at m)
replied_then m = record {
  member = inr (inl refl);
  property = replies;
  greatest =
      each_of (IsUpToIfReply (replied_at m)) (numbered_at 7 ∷ replied_at m ∷ [])
      (λ a. absurd (no_replies a), (λ a. up_to_itself heard_total (replied_at m), tt));
}

-- reply-acks say one thing of a message
pub one_reply_ack : (S : List Received) (first : ℕ) (a b : ReplyAck)
    → IsReplyAckOf S numbered_message first a → IsReplyAckOf S numbered_message first b → a ≡ b
one_reply_ack S first a b =
    reply_ack_once S S (λ x. (λ h. h, λ h. h)) numbered_message first a b
