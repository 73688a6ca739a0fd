-- Which rows report a message, and which an answer to one.
use Rattle.std.specs.Prelude.{◌≡◌, ◌==◌, ◌⊎◌, ℕ, Bool, true, false, min, max, List, [], ◌∷◌, Option, Some, None}
use Rattle.std.specs.BTreeMap.{is_at}
use Rattle.std.specs.Map.{lookup}
use Rattle.std.specs.Option.{option_and_then, option_map}
use Rattle.std.specs.Ordering.{bool_cmp, on, then_cmp}
use Rattle.std.specs.declared.cmp.Ordering.{Ordering}
use Rattle.aprs_log.specs.Octet.{octet}
use Rattle.aprs_ax25.specs.Callsign.{Call, call_cmp}
use Rattle.aprs_ax25.specs.CallText.{SpellsCall, before_dash, from_dash}
use Rattle.aprs_ax25.specs.Scan.{call_fault, ssid_of}
use Rattle.aprs_ax25.specs.declared.fault.CallFault.{CallFault}
use Rattle.aprs_log.specs.Reception.{Received, bytes_cmp, heard_cmp}
use Rattle.aprs_report.specs.Reading.{Value, ack, rej}
use Rattle.aprs_transmissions.specs.Lists.{◌∈◌}
use Rattle.aprs_transmissions.specs.Order.{IsBelow, IsUpTo}
use Rattle.aprs_transmissions.specs.Key.{Key}
use Rattle.aprs_transmissions.specs.Row.{Row, row_key, last_moment}
use Rattle.aprs_transmissions.specs.Spans.{IsLeastFirst, IsGreatestLast}
use Rattle.aprs_summary.specs.declared.lists.message_key.MessageKey.{MessageKey}
use Rattle.aprs_summary.specs.declared.lists.message_key.AnswerKey.{AnswerKey}
use Rattle.aprs_summary.specs.declared.lists.message_key.Span.{Span}
use Rattle.aprs_summary.specs.Reports.{report_of}
use Rattle.aprs_summary.specs.declared.lists.message.MessageRow.{MessageRow}
use Rattle.aprs_summary.specs.declared.lists.message.MessageState.{MessageState}
use Rattle.aprs_summary.specs.declared.lists.message.MessageState.TheVariants.{Unnumbered}
use Rattle.aprs_summary.specs.declared.lists.reply_ack.ReplyAck.{ReplyAck}
use Rattle.aprs_summary.specs.declared.lists.reply_ack.ReplyAck.TheVariants.{NotAwaited}
use Rattle.aprs_summary.specs.Messages.{Message, ReportsIt, answered_by, message_cmp, message_in, reply_ack_by, state_by}
use Rattle.aprs_summary.specs.ReplyAcks.{IsReplyAckText}
use Rattle.aprs_summary.specs.ReplyTexts.{trailing_number}

-- Whether information begins with a colon, as that of messages and their answers does.
abbrev pub begins_with_colon : List ℕ → Bool
begins_with_colon [] = false
begins_with_colon (b ∷ bytes) = b == octet ":"

-- ---- spans

-- The message that a key of the code stands for.
abbrev pub message_of : MessageKey → Message
message_of x = record {
  source = x.source;
  addressee = x.addressee.now;
  text = x.text.now;
  id = option_map (λ y. y.now) x.id;
}

-- From the first to the last moment of a row.
abbrev pub span_of : Row → Span
span_of x = record { first = x.first; last = last_moment x }

-- A span, if there is one, with that of one more row.
abbrev pub span_with : Option Span → Span → Span
span_with None t = t
span_with (Some s) t = record { first = min s.first t.first; last = max s.last t.last }

-- From the least first to the greatest last moment of the rows that report this message.
pub record IsSpan (rows : List Row) (m : Message) (s : Span) : Type 0 where
  pub first : IsLeastFirst rows (ReportsIt m) s.first
  pub last : IsGreatestLast rows (ReportsIt m) s.last

-- ---- answers

-- The addressee and the id of an answer.
abbrev pub reported_answer : Value → Option (List ℕ × List ℕ)
reported_answer (ack addressee id) = Some (addressee, id)
reported_answer (rej addressee id) = Some (addressee, id)
reported_answer v = None

-- Whose message is answered, who answers, the id or the number, and whether by a reply-ack.
pub record Answer : Type 0 where
  pub source : Call
  pub addressee : Call
  pub id : List ℕ
  pub is_reply : Bool

-- The answer that a key of the code stands for.
abbrev pub answer_of : AnswerKey → Answer
answer_of x = record {
  source = x.source;
  addressee = x.addressee;
  id = x.id.now;
  is_reply = x.is_reply;
}

-- A key that gives this answer by itself: who answers sent it to the station whose message it is,
-- and it acknowledges or rejects the id.
pub record IsOfAnswer (a : Answer) (k : Key) : Type 0 where
  pub addressee : List ℕ
  pub sender : k.source ≡ a.addressee
  pub to : SpellsCall a.source addressee
  pub answer : (report_of k ≡ ack addressee a.id) ⊎ (report_of k ≡ rej addressee a.id)
  pub no_reply : a.is_reply ≡ false

-- A message that gives this answer by a reply-ack: who answers sent it to the station whose message
-- it is, and its text, without an id, acknowledges the number.
pub record GivesReply (a : Answer) (m : Message) : Type 0 where
  pub sender : m.source ≡ a.addressee
  pub to : SpellsCall a.source m.addressee
  pub no_id : m.id ≡ None
  pub acknowledges : IsReplyAckText a.id m.text
  pub is_reply : a.is_reply ≡ true

-- A key that gives this answer, by itself or as a message.
abbrev pub GivesAnswer : Answer → Key → Type 0
GivesAnswer a k =
    IsOfAnswer a k ⊎ ((m : Message) × (message_in k ≡ Some m) × GivesReply a m)

-- g is the greatest of the greatest receptions of the rows that answer.
pub record IsGreatestAnswer (rows : List Row) (a : Answer) (g : Received) : Type 0 where
  pub row : (x : Row) × (x ∈ rows) × GivesAnswer a (row_key x) × (x.greatest ≡ g)
  pub greatest : (x : Row) → x ∈ rows → GivesAnswer a (row_key x) → IsUpTo heard_cmp x.greatest g

-- The order of answers: by the station whose message it is, the one that answers, the id, and
-- whether it is a reply-ack.
abbrev pub answer_cmp : Answer → Answer → Ordering
answer_cmp = then_cmp (on (λ a. a.source) call_cmp)
    (then_cmp (on (λ a. a.addressee) call_cmp)
    (then_cmp (on (λ a. a.id) bytes_cmp) (on (λ a. a.is_reply) bool_cmp)))

-- ---- entries, one for each message or answer of the rows

-- Entries for what the rows report. Each thing that a row's key reports, as P says, has an entry.
-- Of each entry T holds: of the rows, of the thing that `shown` gives of the entry's first part,
-- and of its second. Two entries for one thing aren't excluded.
pub record IsCollected {K V M : Type 0} (shown : K → M) (P : M → Key → Type 0)
    (T : List Row → M → V → Type 0) (rows : List Row) (entries : List (K × V)) : Type 0 where
  pub each : (e : K × V) → e ∈ entries → T rows (shown e.0) e.1
  pub every : (x : Row) → x ∈ rows → (m : M) → P m (row_key x)
      → (e : K × V) × (e ∈ entries) × (shown e.0 ≡ m)

-- One span for each message of the rows.
abbrev pub AreSpans : List Row → List (MessageKey × Span) → Type 0
AreSpans rows entries = IsCollected message_of ReportsIt IsSpan rows entries

-- One greatest reception for each answer of the rows.
abbrev pub AreAnswers : List Row → List (AnswerKey × Received) → Type 0
AreAnswers rows entries = IsCollected answer_of GivesAnswer IsGreatestAnswer rows entries

-- ---- rows of the listing

-- A callsign of these characters and this SSID, where both were read without a fault.
abbrev pub call_when : Option CallFault → List ℕ → Option ℕ → Option Call
call_when (Some fault) characters ssid = None
call_when None characters None = None
call_when None characters (Some ssid) = Some (record { characters = characters; ssid = ssid })

-- The callsign whose text these bytes are, or none.
abbrev pub spelled_call : List ℕ → Option Call
spelled_call text = call_when (call_fault text) (before_dash text) (ssid_of (from_dash text))

-- The answer of a station to this id of a message, or its reply-ack to this number.
abbrev pub answer_from : Message → List ℕ → Bool → Call → Answer
answer_from m id is_reply call =
    record { source = m.source; addressee = call; id = id; is_reply = is_reply }

-- The reception that the entries have of an answer.
abbrev pub answer_at : List (AnswerKey × Received) → Answer → Option Received
answer_at entries a = lookup (is_at (λ (k : AnswerKey). answer_cmp a (answer_of k))) entries

-- The greatest answer among the entries to this id of a message, or the greatest reply-ack to this
-- number. None where no entry is one, as where the addressee is no callsign.
abbrev pub answer_to : List (AnswerKey × Received) → Message → List ℕ → Bool → Option Received
answer_to entries m id is_reply = option_and_then
    (λ (call : Call). answer_at entries (answer_from m id is_reply call)) (spelled_call m.addressee)

-- The state of a message of this first moment and id, by the greatest answer to it among the
-- entries; without an id it is unnumbered.
abbrev pub state_in : List (AnswerKey × Received) → Message → ℕ → Option (List ℕ) → MessageState
state_in entries m first None = Unnumbered
state_in entries m first (Some id) = state_by first (answer_to entries m id false)

-- When a message of this first moment and id was answered, by the greatest answer among the
-- entries.
abbrev pub answered_in : List (AnswerKey × Received) → Message → ℕ → Option (List ℕ) → Option ℕ
answered_in entries m first None = None
answered_in entries m first (Some id) = answered_by first (answer_to entries m id false)

-- The number of a message, where its text has this number: none where the message has an id.
abbrev pub number_without : Option (List ℕ) → Option (List ℕ) → Option (List ℕ)
number_without None number = number
number_without (Some id) number = None

-- What reply-acks say of this number of a message of this first moment, by the greatest one among
-- the entries.
abbrev pub reply_ack_to : List (AnswerKey × Received) → Message → ℕ → Option (List ℕ) → ReplyAck
reply_ack_to entries m first None = NotAwaited
reply_ack_to entries m first (Some number) = reply_ack_by first (answer_to entries m number true)

-- What reply-acks say of a message of this first moment, by its number.
abbrev pub reply_ack_in : List (AnswerKey × Received) → Message → ℕ → ReplyAck
reply_ack_in entries m first =
    reply_ack_to entries m first (number_without m.id (trailing_number m.text))

-- The row of a message and its span.
abbrev pub row_in : List (AnswerKey × Received) → MessageKey × Span → MessageRow
row_in entries e = record {
  source = e.0.source;
  addressee = e.0.addressee;
  text = e.0.text;
  id = e.0.id;
  first = e.1.first;
  last = e.1.last;
  state = state_in entries (message_of e.0) e.1.first (message_of e.0).id;
  answered = answered_in entries (message_of e.0) e.1.first (message_of e.0).id;
  reply_ack = reply_ack_in entries (message_of e.0) e.1.first;
}

-- The one's message is below the other's.
abbrev pub IsKeyBefore : MessageKey × Span → MessageKey × Span → Type 0
IsKeyBefore a b = IsBelow message_cmp (message_of a.0) (message_of b.0)
