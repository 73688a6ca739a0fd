-- Reply-acks say one thing of a message.
use Rattle.aprs_summary.proofs.Common.{◌≡◌, ◌∙◌, ℕ, List, ap, sym, subst, inl, inr, Received, LastKnown, known_once}
use Rattle.aprs_transmissions.specs.Lists.{SameMembers}
use Rattle.aprs_summary.specs.declared.lists.reply_ack.ReplyAck.{ReplyAck}
use Rattle.aprs_summary.specs.Messages.{HasNumber, IsReplyAckOf, Message, RepliesTo, reply_ack_by}
use Rattle.aprs_summary.proofs.ReplyTexts.{numbered_once}

number_once : (m : Message) (a b : List ℕ) → HasNumber m a → HasNumber m b → a ≡ b
number_once m a b h k =
    ap (λ (p : List ℕ × List ℕ). p.0) (numbered_once m.text (a, h.1.0) (b, k.1.0) h.1.1 k.1.1)

pub reply_ack_once : (S T : List Received) → SameMembers S T → (m : Message) (first : ℕ)
    (a b : ReplyAck) → IsReplyAckOf S m first a → IsReplyAckOf T m first b → a ≡ b
reply_ack_once S T same m first a b h k = elim h [
  | inl n ↦ elim k [
    | inl o ↦ n.1 ∙ sym o.1
    | inr r ↦ absurd (n.0 r.0 r.1)
  ]
  | inr s ↦ elim k [
    | inl o ↦ absurd (o.0 s.0 s.1)
    | inr r ↦ s.4
        ∙ (ap (reply_ack_by first) (known_once S T (RepliesTo m s.0) s.2 r.2 same s.3
        (subst (λ (n : List ℕ). LastKnown T (RepliesTo m n) r.2)
        (sym (number_once m s.0 r.0 s.1 r.1)) r.3))
        ∙ sym r.4)
  ]
]
