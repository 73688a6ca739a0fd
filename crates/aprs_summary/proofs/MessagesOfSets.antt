-- What rows report of messages is what their set has.
use Rattle.aprs_summary.proofs.Common.{◌≡◌, ◌∙◌, ℕ, Bool, true, false, inl, inr, List, [], ◌∷◌, Option, Some, None, sym, ap, refl, subst, Call, SpellsCall, Received, heard_cmp, ◌∈◌, Ordered, IsBelow, IsUpTo, Key, Row, row_key, BookOf, LastKnown, IsBest, a_row, best_of_rows, from_map, in_map, map, none_of_rows, Value, position, object, item, message, ack, rej, status, raw}
use Rattle.aprs_transmissions.specs.Key.{key_of}
use Rattle.aprs_summary.specs.Reports.{report_of}
use Rattle.aprs_summary.specs.ReplyAcks.{IsReplyAckText}
use Rattle.aprs_transmissions.proofs.Spans.{first_moment_is, last_moment_is}
use Rattle.aprs_summary.specs.declared.lists.message.MessageRow.{MessageRow}
use Rattle.aprs_summary.specs.declared.lists.message_key.MessageKey.{MessageKey}
use Rattle.aprs_summary.specs.declared.lists.message_key.Span.{Span}
use Rattle.aprs_summary.specs.declared.lists.message_key.AnswerKey.{AnswerKey}
use Rattle.aprs_summary.specs.Messages.{Message, message_cmp, ReportsIt, AnswersIt, RepliesTo, IsAnsweredAt, IsReplyAckOf, IsStateOf, message_in, reported_message, shown_message, IsMessageRow, AreMessages, HasNumber, IsListedBefore, ReportsMessages}
use Rattle.aprs_summary.specs.MessageRows.{message_of, Answer, answer_from, answer_of, answer_to, answered_in, GivesAnswer, AreSpans, AreAnswers, IsKeyBefore, number_without, reply_ack_in, reply_ack_to, row_in, state_in}
use Rattle.aprs_summary.specs.ReplyTexts.{HoldsOnly, trailing_number}
use Rattle.aprs_summary.proofs.GreatestAnswers.{IsFor, ReportsAnswer, answer_reported}
use Rattle.aprs_summary.proofs.ReplyTexts.{held_so, none_held}
use Rattle.aprs_summary.proofs.TextNumbers.{message_number}

-- the keys that A says are those of the answers of one kind to an id of a message
pub record AreAnswered (m : Message) (id : List ℕ) (kind : Bool) (A : Key → Type 0) : Type 0 where
  pub gives : (k : Key) → A k → GivesAnswer (answer_from m id kind k.source) k
      × IsFor m id kind (answer_from m id kind k.source)
  pub given : (a : Answer) (k : Key) → IsFor m id kind a → GivesAnswer a k → A k

kinds_differ : (b : Bool) → b ≡ true → b ≡ false → ⊥
kinds_differ b t f = let e : true ≡ false = sym t ∙ f in absurd (cc)

answers_it : (m : Message) (id : List ℕ) → AreAnswered m id false (AnswersIt m id)
answers_it m id = record {
  gives = λ k h. (
    inl (record {
      addressee = h.addressee;
      sender = refl;
      to = h.to;
      answer = h.answer;
      no_reply = refl;
    }),
    record { source = refl; addressee = h.sender; same_id = refl; same_kind = refl },
  );
  given = λ a k f g. elim g [
    | inl r ↦ subst (λ (i : List ℕ). AnswersIt m i k) f.same_id (record {
      addressee = r.addressee;
      sender = subst (λ (c : Call). SpellsCall c m.addressee) (sym r.sender) f.addressee;
      to = subst (λ (c : Call). SpellsCall c r.addressee) f.source r.to;
      answer = r.answer;
    })
    | inr r ↦ absurd (kinds_differ a.is_reply r.2.is_reply f.same_kind)
  ];
}

-- a message that a key reports
reads_so : (k : Key) (m : Message) → message_in k ≡ Some m
    → (k.source ≡ m.source) × (report_of k ≡ message m.addressee m.text m.id)
reads_so k m h = said_so k.source m (report_of k) h where
  said_so : (from : Call) (m : Message) (v : Value) → reported_message from v ≡ Some m
      → (from ≡ m.source) × (v ≡ message m.addressee m.text m.id)
  said_so from m (message addressee text id) h = (
    ap (λ (x : Message). x.source) (the_one _ m h),
    ap (λ (x : Message). message x.addressee x.text x.id) (the_one _ m h),
  ) where
    the_one : (a b : Message) → Some a ≡ Some b → a ≡ b
    the_one a b h = cc
  said_so from m (position a b c d e) h = absurd (cc)
  said_so from m (object a b c d e f) h = absurd (cc)
  said_so from m (item a b c d e) h = absurd (cc)
  said_so from m (ack a b) h = absurd (cc)
  said_so from m (rej a b) h = absurd (cc)
  said_so from m (status a b) h = absurd (cc)
  said_so from m raw h = absurd (cc)

replies_to : (m : Message) (number : List ℕ) → AreAnswered m number true (RepliesTo m number)
replies_to m number = record {
  gives = λ k h. (
    inr (
      record { source = k.source; addressee = h.addressee; text = h.text; id = None },
      ap (reported_message k.source) h.says,
      record {
        sender = refl;
        to = h.to;
        no_id = refl;
        acknowledges = h.acknowledges;
        is_reply = refl;
      },
    ),
    record { source = refl; addressee = h.sender; same_id = refl; same_kind = refl },
  );
  given = λ a k f g. elim g [
    | inl r ↦ absurd (kinds_differ a.is_reply f.same_kind r.no_reply)
    | inr r ↦ (let e = reads_so k r.0 r.1 in
        record {
          addressee = r.0.addressee;
          text = r.0.text;
          sender = subst (λ (c : Call). SpellsCall c m.addressee) (sym (e.0 ∙ r.2.sender)) f.addressee;
          to = subst (λ (c : Call). SpellsCall c r.0.addressee) f.source r.2.to;
          says = e.1 ∙ ap (message r.0.addressee r.0.text) r.2.no_id;
          acknowledges = subst (λ (n : List ℕ). IsReplyAckText n r.0.text) f.same_id r.2.acknowledges;
        })
  ];
}

module _ (gap : ℕ) (S : List Received) (rows : List Row) (b : BookOf gap S rows) where
  module _ (es : List (AnswerKey × Received)) (c : AreAnswers rows es) (m : Message)
      (id : List ℕ) (kind : Bool) (A : Key → Type 0) (w : AreAnswered m id kind A) where
    pub answer_known : (answer : Option Received) → ReportsAnswer es m id kind answer
        → LastKnown S A answer
    answer_known None t =
        none_of_rows gap S rows A b
        (λ y h k. let a = w.gives (row_key y) k in
        let e = c.every y h (answer_from m id kind (row_key y).source) a.0 in
        t e.0 e.1 (subst (IsFor m id kind) (sym e.2) a.1))
    answer_known (Some g) t =
        let r = c.each t.0 t.1 in
        let x = r.row in
        subst (IsBest S A) (x.3 ∙ t.4)
        (best_of_rows gap S rows A b x.0 x.1
        (w.given (answer_of t.0.0) (row_key x.0) t.2 x.2)
        (λ y h k. let a = w.gives (row_key y) k in
        subst (IsUpTo heard_cmp y.greatest) (sym x.3)
        (r.greatest y h
        (subst (λ (q : Answer). GivesAnswer q (row_key y))
        (t.3 (answer_from m id kind (row_key y).source) a.1) a.0))))

  module _ (rs : List (AnswerKey × Received)) (ca : AreAnswers rows rs) (m : Message) (first : ℕ) where
    abbrev to : List ℕ → Bool → Option Received
    to id kind = answer_to rs m id kind

    answers_known : (id : List ℕ) → LastKnown S (AnswersIt m id) (to id false)
    answers_known id = answer_known rs ca m id false (AnswersIt m id) (answers_it m id) (to id false)
        (answer_reported rs m id false)

    stands : (id : Option (List ℕ)) → IsStateOf S m first id (state_in rs m first id)
    stands None = refl
    stands (Some id) = (to id false, answers_known id, refl)

    answered_then : (id : Option (List ℕ)) → IsAnsweredAt S m first id (answered_in rs m first id)
    answered_then None = refl
    answered_then (Some id) = (to id false, answers_known id, refl)

    replied_to : (o : Option (List ℕ)) → HoldsOnly (HasNumber m) o
        → IsReplyAckOf S m first (reply_ack_to rs m first o)
    replied_to None h = inl (λ n k. none_held (HasNumber m) n h k, refl)
    replied_to (Some n) h = inr (
      n,
      held_so (HasNumber m) n h,
      to n true,
      answer_known rs ca m n true (RepliesTo m n) (replies_to m n) (to n true)
          (answer_reported rs m n true),
      refl,
    )

    replied : IsReplyAckOf S m first (reply_ack_in rs m first)
    replied = replied_to (number_without m.id (trailing_number m.text)) (message_number m)

  module _ (es : List (MessageKey × Span)) (rs : List (AnswerKey × Received))
      (cs : AreSpans rows es) (ca : AreAnswers rows rs) (o : Ordered IsKeyBefore es) where
    each_row : (x : MessageRow) → x ∈ map (row_in rs) es → IsMessageRow S x
    each_row x h =
        let f = from_map (row_in rs) x es h in
        let e = f.0 in
        let s = cs.each e f.1 in
        let m = message_of e.0 in
        subst (IsMessageRow S) f.2 (record {
          first = (first_moment_is gap S rows (ReportsIt m) b e.1.first).1 s.first;
          last = (last_moment_is gap S rows (ReportsIt m) b e.1.last).1 s.last;
          state = stands rs ca m e.1.first m.id;
          answered = answered_then rs ca m e.1.first m.id;
          reply_ack = replied rs ca m e.1.first;
        })

    sent : (m : Message) → (x : MessageRow) × (x ∈ map (row_in rs) es) × (shown_message x ≡ m)
        → (s : Received) × (s ∈ S) × ReportsIt m (key_of s.frame)
    sent m h =
        let f = from_map (row_in rs) h.0 es h.1 in
        let r = (cs.each f.0 f.1).first.row in (
          r.0.greatest,
          ((b.exactly r.0).0 r.1).member,
          subst (λ (n : Message). ReportsIt n (row_key r.0)) (ap shown_message f.2 ∙ h.2) r.2,
        )

    listed_there : (m : Message) → (s : Received) × (s ∈ S) × ReportsIt m (key_of s.frame)
        → (x : MessageRow) × (x ∈ map (row_in rs) es) × (shown_message x ≡ m)
    listed_there m h =
        let y = a_row gap S rows b h.0 h.1 in
        let e = cs.every y.0 y.1 m (subst (ReportsIt m) y.2.key h.2) in
        (row_in rs e.0, in_map (row_in rs) e.0 es e.1, e.2)

    pub messages_of_set : AreMessages S (map (row_in rs) es)
    messages_of_set = record {
      ascending = in_order es o;
      messages = λ m. (sent m, listed_there m);
      each = each_row;
    } where
      in_order : (es : List (MessageKey × Span)) → Ordered IsKeyBefore es
          → Ordered IsListedBefore (map (row_in rs) es)
      in_order [] o = tt
      in_order (e ∷ es) o = (
        λ y h. (let f = from_map (row_in rs) y es h in
            subst (λ (x : MessageRow). IsBelow message_cmp (message_of e.0) (shown_message x)) f.2
            (o.0 f.0 f.1)),
        in_order es o.1,
      )

pub messages_of_book : (gap : ℕ) (rows : List Row) (es : List (MessageKey × Span))
    (rs : List (AnswerKey × Received)) → AreSpans rows es → AreAnswers rows rs
    → Ordered IsKeyBefore es → ReportsMessages gap rows (map (row_in rs) es)
messages_of_book gap rows es rs cs cr o = λ S b. messages_of_set gap S rows b es rs cs cr o
