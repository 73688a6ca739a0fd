-- What one more row adds to what rows exchange.
use Rattle.aprs_summary.proofs.Common.{◌≡◌, ◌∙◌, List, [], ◌∷◌, ◌++◌, Option, Some, None, false, sym, ap, subst, ◌↔◌, inl, inr, refl, true, ℕ, Bor, Call, SpellsCall, is_some, option_map, Received, Key, Row, row_key}
use Rattle.aprs_summary.specs.declared.lists.message_key.AnswerKey.{AnswerKey}
use Rattle.aprs_summary.specs.declared.lists.message_key.MessageKey.{MessageKey}
use Rattle.aprs_summary.specs.declared.lists.message_key.Span.{Span}
use Rattle.aprs_summary.specs.Reports.{report_of}
use Rattle.aprs_summary.specs.Messages.{Message, message_in, reported_message}
use Rattle.aprs_summary.specs.MessageRows.{Answer, AreAnswers, AreSpans, GivesAnswer, GivesReply, IsOfAnswer, reported_answer, begins_with_colon}
use Rattle.aprs_summary.proofs.Addressed.{no_answer_in, no_message_in}
use Rattle.aprs_summary.proofs.Collected.{adds_last}
use Rattle.aprs_summary.proofs.Messages.{spans_passed}
use Rattle.aprs_summary.proofs.GreatestAnswers.{answers_passed, same_answer}
use Rattle.aprs_summary.specs.ReplyAcks.{IsReplyAckText}

-- an answer reads as one
answer_reads : (a : Answer) (k : Key) (r : IsOfAnswer a k)
    → reported_answer (report_of k) ≡ Some (r.addressee, a.id)
answer_reads a k r = elim r.answer [
  | inl e ↦ ap reported_answer e
  | inr e ↦ ap reported_answer e
]

-- a message is no ack or rej
message_no_answer : (k : Key) (m : Message) → message_in k ≡ Some m → (a : Answer) → IsOfAnswer a k → ⊥
message_no_answer k m h a r = elim r.answer [
  | inl e ↦ let t : None ≡ Some m = sym (ap (reported_message k.source) e) ∙ h in absurd (cc)
  | inr e ↦ let t : None ≡ Some m = sym (ap (reported_message k.source) e) ∙ h in absurd (cc)
]

none_is_some : {X : Type 0} (o : Option X) (x : X) → o ≡ None → o ≡ Some x → ⊥
none_is_some o x n s = let t : None ≡ Some x = sym n ∙ s in absurd (cc)

-- what is no message answers by itself alone
pub answers_by_itself : (k : Key) → message_in k ≡ None → (a : Answer)
    → GivesAnswer a k ↔ IsOfAnswer a k
answers_by_itself k n a = (
  λ g. elim g [
    | inl r ↦ r
    | inr r ↦ absurd (none_is_some (message_in k) r.0 n r.1)
  ],
  inl,
)

-- a message answers by a reply-ack alone
pub answers_by_reply : (k : Key) (m : Message) → message_in k ≡ Some m → (a : Answer)
    → GivesAnswer a k ↔ GivesReply a m
answers_by_reply k m h a = (
  λ g. elim g [
    | inl r ↦ absurd (message_no_answer k m h a r)
    | inr r ↦ subst (GivesReply a) (one_message r.0 m (sym r.1 ∙ h)) r.2
  ],
  λ r. inr (m, h, r),
) where
  one_message : (a b : Message) → Some a ≡ Some b → a ≡ b
  one_message a b h = cc

-- what begins with no colon is no answer
pub no_answer_given : (k : Key) → begins_with_colon k.info ≡ false → (a : Answer) → GivesAnswer a k → ⊥
no_answer_given k n a g =
    let r = (answers_by_itself k (no_message_in k n) a).0 g in
    let none : reported_answer (report_of k) ≡ None = no_answer_in k.info n in
    let some = answer_reads a k r in
    absurd (none_is_some (reported_answer (report_of k)) (r.addressee, a.id) none some)

-- what has no value has none that is seen
pub no_id : (o : Option (Bor (List ℕ))) → false ≡ is_some o → option_map (λ y. y.now) o ≡ None
no_id None e = refl
no_id (Some x) e = absurd (cc)

-- a message with an id answers nothing by a reply-ack
pub no_reply_given : (m : Message) (o : Option (Bor (List ℕ))) → m.id ≡ option_map (λ y. y.now) o
    → true ≡ is_some o → (a : Answer) → GivesReply a m → ⊥
no_reply_given m None e s a r = absurd (cc)
no_reply_given m (Some x) e s a r = none_is_some m.id x.now r.no_id e

-- the one answer that a message gives by a reply-ack
pub one_reply : (m : Message) (source from : Call) (id : List ℕ) → from ≡ m.source → m.id ≡ None
    → IsReplyAckText id m.text → ((n : List ℕ) → IsReplyAckText n m.text → id ≡ n)
    → SpellsCall source m.addressee → ((c : Call) → SpellsCall c m.addressee → source ≡ c)
    → (a : Answer) → GivesReply a m
    ↔ (Some (record { source = source; addressee = from; id = id; is_reply = true }) ≡ Some a)
one_reply m source from id f n i only s one a = (
  λ r. ap Some (same_answer (record { source = source; addressee = from; id = id; is_reply = true })
      a (one a.source r.to) (f ∙ r.sender) (only a.id r.acknowledges) (sym r.is_reply)),
  λ e. subst (λ (x : Answer). GivesReply x m) (unwrapped _ a e)
      (record { sender = sym f; to = s; no_id = n; acknowledges = i; is_reply = refl }),
) where
  unwrapped : (a b : Answer) → Some a ≡ Some b → a ≡ b
  unwrapped a b h = cc

module _ (rows : List Row) (r : Row) where
  pub spans_beside : (es : List (MessageKey × Span)) → message_in (row_key r) ≡ None → AreSpans rows es
      → AreSpans (rows ++ r ∷ []) es
  spans_beside es n c = spans_passed rows (rows ++ r ∷ []) r (adds_last rows r) es c n

  pub answers_beside : (es : List (AnswerKey × Received)) → ((a : Answer) → GivesAnswer a (row_key r) → ⊥)
      → AreAnswers rows es → AreAnswers (rows ++ r ∷ []) es
  answers_beside es n c = answers_passed rows (rows ++ r ∷ []) r (adds_last rows r) es c n
