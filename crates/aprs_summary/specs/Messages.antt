-- The messages of a set of receptions.
use Rattle.std.specs.Prelude.{◌≡◌, ◌↔◌, ◌⊎◌, ℕ, nat_lt, List, Option, Some, None, if◌then◌else◌, codes}
use Rattle.std.specs.Option.{option_cmp, option_map}
use Rattle.std.specs.Ordering.{on, then_cmp}
use Rattle.std.specs.declared.cmp.Ordering.{Ordering}
use Rattle.aprs_ax25.specs.Callsign.{Call, call_cmp}
use Rattle.aprs_ax25.specs.CallText.{SpellsCall}
use Rattle.aprs_log.specs.Reception.{Received, bytes_cmp}
use Rattle.aprs_report.specs.Reading.{Value, message, ack, rej}
use Rattle.aprs_transmissions.specs.Lists.{◌∈◌, Ordered}
use Rattle.aprs_transmissions.specs.Order.{IsBelow}
use Rattle.aprs_transmissions.specs.Key.{Key, key_of}
use Rattle.aprs_transmissions.specs.Row.{Row}
use Rattle.aprs_transmissions.specs.Book.{BookOf}
use Rattle.aprs_transmissions.specs.Best.{LastKnown}
use Rattle.aprs_transmissions.specs.Spans.{IsFirstMoment, IsLastMoment}
use Rattle.aprs_summary.specs.declared.lists.message.MessageRow.{MessageRow}
use Rattle.aprs_summary.specs.declared.lists.message.MessageState.{MessageState}
use Rattle.aprs_summary.specs.declared.lists.message.MessageState.TheVariants.{Unnumbered, Unanswered, Acknowledged, Rejected}
use Rattle.aprs_summary.specs.declared.lists.reply_ack.ReplyAck.{ReplyAck}
use Rattle.aprs_summary.specs.declared.lists.reply_ack.ReplyAck.TheVariants.{NotAwaited, Awaited, Heard}
use Rattle.aprs_summary.specs.ReplyAcks.{IsNumberedText, IsReplyAckText}
use Rattle.aprs_summary.specs.Reports.{report_of}

-- The word for what came of a message.
abbrev pub state_text : MessageState → List ℕ
state_text Unnumbered = codes "unnumbered"
state_text Unanswered = codes "unanswered"
state_text Acknowledged = codes "acknowledged"
state_text Rejected = codes "rejected"

-- Who sent it, to whom, its text, and its id or none: receptions that agree in these are of one
-- message.
pub record Message : Type 0 where
  pub source : Call
  pub addressee : List ℕ
  pub text : List ℕ
  pub id : Option (List ℕ)

-- The message that a station sends by a report, if it is one.
abbrev pub reported_message : Call → Value → Option Message
reported_message from (message addressee text id) =
    Some (record { source = from; addressee = addressee; text = text; id = id })
reported_message from v = None

-- The message that a key reports, or none.
abbrev pub message_in : Key → Option Message
message_in k = reported_message k.source (report_of k)

-- A key that reports this message.
abbrev pub ReportsIt : Message → Key → Type 0
ReportsIt m k = message_in k ≡ Some m

-- The order of messages: by source, addressee, text, then id, where no id comes before any.
abbrev pub message_cmp : Message → Message → Ordering
message_cmp = then_cmp (on (λ m. m.source) call_cmp)
    (then_cmp (on (λ m. m.addressee) bytes_cmp)
    (then_cmp (on (λ m. m.text) bytes_cmp) (on (λ m. m.id) (option_cmp bytes_cmp))))

-- ---- what answers a message

-- A key that acknowledges or rejects this id of a message: its sender is the message's addressee,
-- and it is addressed to the message's sender.
pub record AnswersIt (m : Message) (id : List ℕ) (k : Key) : Type 0 where
  pub addressee : List ℕ
  pub sender : SpellsCall k.source m.addressee
  pub to : SpellsCall m.source addressee
  pub answer : (report_of k ≡ ack addressee id) ⊎ (report_of k ≡ rej addressee id)

-- The state by an answer that reads so: rejected by a rejection, otherwise acknowledged.
abbrev pub reported_state : Value → MessageState
reported_state (rej addressee id) = Rejected
reported_state v = Acknowledged

-- The state of a message by its greatest answer, which counts only if it was heard at the
-- message's first moment or later.
abbrev pub state_by : ℕ → Option Received → MessageState
state_by first None = Unanswered
state_by first (Some a) =
    if nat_lt a.moment first then Unanswered else reported_state (report_of (key_of a.frame))

-- The state of a message of S with this first moment and id: without an id it can't be answered;
-- otherwise its greatest answer in S says it.
abbrev pub IsStateOf : List Received → Message → ℕ → Option (List ℕ) → MessageState → Type 0
IsStateOf S m first None state = state ≡ Unnumbered
IsStateOf S m first (Some id) state =
    (reply : Option Received) × LastKnown S (AnswersIt m id) reply × (state ≡ state_by first reply)

-- When the greatest answer was heard, where it counts.
abbrev pub answered_by : ℕ → Option Received → Option ℕ
answered_by first None = None
answered_by first (Some a) = if nat_lt a.moment first then None else Some a.moment

-- When a message of S with this first moment and id was answered: without an id never; otherwise
-- when its greatest answer in S was heard, where that counts.
abbrev pub IsAnsweredAt : List Received → Message → ℕ → Option (List ℕ) → Option ℕ → Type 0
IsAnsweredAt S m first None answered = answered ≡ None
IsAnsweredAt S m first (Some id) answered =
    (reply : Option Received) × LastKnown S (AnswersIt m id) reply
    × (answered ≡ answered_by first reply)

-- ---- what acknowledges a message by a reply-ack

-- A message without an id, whose text has this number.
abbrev pub HasNumber : Message → List ℕ → Type 0
HasNumber m number =
    (m.id ≡ None) × ((acknowledged : List ℕ) × IsNumberedText number acknowledged m.text)

-- A key that acknowledges this number of a message by a reply-ack: its sender is the message's
-- addressee, it is addressed to the message's sender, and its text, without an id, acknowledges the
-- number.
pub record RepliesTo (m : Message) (number : List ℕ) (k : Key) : Type 0 where
  pub addressee : List ℕ
  pub text : List ℕ
  pub sender : SpellsCall k.source m.addressee
  pub to : SpellsCall m.source addressee
  pub says : report_of k ≡ message addressee text None
  pub acknowledges : IsReplyAckText number text

-- What came of a message's number by its greatest reply-ack, which counts only if it was heard at
-- the message's first moment or later.
abbrev pub reply_ack_by : ℕ → Option Received → ReplyAck
reply_ack_by first None = Awaited
reply_ack_by first (Some a) = if nat_lt a.moment first then Awaited else Heard a.moment

-- What reply-acks say of a message of S with this first moment: without a number none is awaited;
-- otherwise its greatest reply-ack in S says it.
abbrev pub IsReplyAckOf : List Received → Message → ℕ → ReplyAck → Type 0
IsReplyAckOf S m first reply_ack =
    (((number : List ℕ) → HasNumber m number → ⊥) × (reply_ack ≡ NotAwaited))
    ⊎ ((number : List ℕ) × HasNumber m number × (reply : Option Received)
    × LastKnown S (RepliesTo m number) reply × (reply_ack ≡ reply_ack_by first reply))

-- ---- all messages

-- The message of a row of the list.
abbrev pub shown_message : MessageRow → Message
shown_message x = record {
  source = x.source;
  addressee = x.addressee.now;
  text = x.text.now;
  id = option_map (λ y. y.now) x.id;
}

-- S has a reception of this message.
abbrev pub IsSent : List Received → Message → Type 0
IsSent S m = (s : Received) × (s ∈ S) × ReportsIt m (key_of s.frame)

-- The one's message is below the other's.
abbrev pub IsListedBefore : MessageRow → MessageRow → Type 0
IsListedBefore x y = IsBelow message_cmp (shown_message x) (shown_message y)

-- A row of the list has the message's first and last moment in S, and what came of it in S. It has
-- the moment at which it was answered in S, and what reply-acks in S say of it.
pub record IsMessageRow (S : List Received) (x : MessageRow) : Type 0 where
  pub first : IsFirstMoment S (ReportsIt (shown_message x)) x.first
  pub last : IsLastMoment S (ReportsIt (shown_message x)) x.last
  pub state : IsStateOf S (shown_message x) x.first (shown_message x).id x.state
  pub answered : IsAnsweredAt S (shown_message x) x.first (shown_message x).id x.answered
  pub reply_ack : IsReplyAckOf S (shown_message x) x.first x.reply_ack

-- One row for each message in S, in order.
pub record AreMessages (S : List Received) (xs : List MessageRow) : Type 0 where
  pub ascending : Ordered IsListedBefore xs
  pub messages : (m : Message)
      → ((x : MessageRow) × (x ∈ xs) × (shown_message x ≡ m)) ↔ IsSent S m
  pub each : (x : MessageRow) → x ∈ xs → IsMessageRow S x

-- Whatever set the rows are the book of, these are its messages.
abbrev pub ReportsMessages : ℕ → List Row → List MessageRow → Type 0
ReportsMessages gap rows xs = (S : List Received) → BookOf gap S rows → AreMessages S xs
