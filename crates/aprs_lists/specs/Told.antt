-- What the table tells of a message.
use Rattle.std.specs.Prelude.{◌≡◌, ◌-◌, ℕ, Bool, true, false, nat_lt, if◌then◌else◌, List, [], ◌∷◌, ◌++◌, Option, None, Some, codes}
use Rattle.std.specs.List.{flat_map}
use Rattle.std.specs.Option.{option_map}
use Rattle.aprs_ax25.specs.Callsign.{Call, call_text}
use Rattle.aprs_io.specs.Shown.{shown_text}
use Rattle.aprs_log.specs.Moment.{moment_text}
use Rattle.aprs_lists.specs.Answers.{AskedAnswer, IsFirstAnswer, Reply, first_in_time}
use Rattle.aprs_lists.specs.Runs.{Sent}
use Rattle.aprs_summary.specs.MessageRows.{spelled_call}
use Rattle.aprs_summary.specs.Messages.{Message, state_text}
use Rattle.aprs_summary.specs.ReplyTexts.{trailing_number}
use Rattle.aprs_summary.specs.declared.lists.message.MessageRow.{MessageRow}
use Rattle.aprs_summary.specs.declared.lists.message.MessageState.{MessageState}
use Rattle.aprs_summary.specs.declared.lists.message.MessageState.TheVariants.{Unnumbered, Unanswered, Acknowledged, Rejected}
use Rattle.aprs_summary.specs.declared.lists.reply_ack.ReplyAck.{ReplyAck}
use Rattle.aprs_summary.specs.declared.lists.reply_ack.ReplyAck.TheVariants.{NotAwaited, Awaited, Heard}
use Rattle.aprs_lists.specs.Class.{class_text}
use Rattle.aprs_lists.specs.Lines.{tabbed_line}
use Rattle.aprs_lists.specs.declared.told.MessageLine.{MessageLine}

-- What the table tells of a message: what came of its id by acks and rejs, and when; from when to
-- when it was sent; what came of its number by reply-acks; the gate of its first copy; and what
-- came of its number by any answer, and when.
pub record Told : Type 0 where
  pub message : Message
  pub state : MessageState
  pub first : ℕ
  pub last : ℕ
  pub answered : Option ℕ
  pub reply_ack : ReplyAck
  pub gate : Option Call
  pub outcome : MessageState
  pub settled : Option ℕ

-- What a `MessageLine` of the code tells, as definitions have it.
abbrev pub told_of : MessageLine → Told
told_of x = record {
  message = record {
    source = x.source;
    addressee = x.addressee.now;
    text = x.text.now;
    id = option_map (λ y. y.now) x.id;
  };
  state = x.state;
  first = x.first;
  last = x.last;
  answered = x.answered;
  reply_ack = x.reply_ack;
  gate = x.gate;
  outcome = x.outcome;
  settled = x.settled;
}

-- ---- its line

-- The id, or without one the number that the text has for reply-acks; none without both.
abbrev pub number_by : Option (List ℕ) → List ℕ → Option (List ℕ)
number_by (Some id) text = Some id
number_by None text = trailing_number text

-- The number of a message: what answers name.
abbrev pub message_number : Message → Option (List ℕ)
message_number m = number_by m.id m.text

-- Bytes, or nothing where there are none.
abbrev pub bytes_or_nothing : Option (List ℕ) → List ℕ
bytes_or_nothing None = []
bytes_or_nothing (Some bytes) = bytes

-- A moment, or nothing where there is none.
abbrev pub moment_or_nothing : Option ℕ → List ℕ
moment_or_nothing None = []
moment_or_nothing (Some moment) = moment_text moment

-- A callsign, or nothing where there is none.
abbrev pub call_or_nothing : Option Call → List ℕ
call_or_nothing None = []
call_or_nothing (Some call) = call_text call

-- When a message was answered, and by whom: only its addressee answers it. Nothing where it wasn't.
abbrev pub answer_fields : Option ℕ → List ℕ → List (List ℕ)
answer_fields None addressee = [] ∷ [] ∷ []
answer_fields (Some answered) addressee = moment_text answered ∷ shown_text addressee ∷ []

-- What came of the number that a message has for reply-acks, and when it was acknowledged. Nothing
-- where it has none, as a message with an id has none.
abbrev pub reply_ack_fields : ReplyAck → List (List ℕ)
reply_ack_fields NotAwaited = [] ∷ [] ∷ []
reply_ack_fields Awaited = codes "unanswered" ∷ [] ∷ []
reply_ack_fields (Heard moment) = codes "acknowledged" ∷ moment_text moment ∷ []

-- The gate, the class, the number, what came of that, and when.
abbrev pub net_fields : Told → List (List ℕ)
net_fields t = call_or_nothing t.gate ∷ class_text t.message
    ∷ shown_text (bytes_or_nothing (message_number t.message)) ∷ state_text t.outcome
    ∷ moment_or_nothing t.settled ∷ []

-- The fields of a line.
abbrev pub told_fields : Told → List (List ℕ)
told_fields t = call_text t.message.source ∷ shown_text t.message.addressee
    ∷ shown_text (bytes_or_nothing t.message.id) ∷ shown_text t.message.text
    ∷ state_text t.state ∷ moment_text t.first ∷ moment_text t.last
    ∷ answer_fields t.answered t.message.addressee ++ (reply_ack_fields t.reply_ack ++ net_fields t)

-- The line of a message.
abbrev pub told_message_line : Told → List ℕ
told_message_line t = tabbed_line (told_fields t)

-- The names of the columns.
abbrev pub message_columns : List (List ℕ)
message_columns = codes "source" ∷ codes "addressee" ∷ codes "id" ∷ codes "text" ∷ codes "state"
    ∷ codes "first" ∷ codes "last" ∷ codes "answer" ∷ codes "answer_source"
    ∷ codes "reply_ack" ∷ codes "reply_answer" ∷ codes "gate" ∷ codes "class" ∷ codes "number"
    ∷ codes "outcome" ∷ codes "outcome_moment" ∷ []

-- The names of the columns, and one line for each message, in their order.
abbrev pub told_table : List Told → List ℕ
told_table messages = tabbed_line message_columns ++ flat_map told_message_line messages

-- ---- as the listing has it

-- What came of a number, by what came of an id and by reply-acks.
abbrev pub listed_outcome : MessageState → ReplyAck → MessageState
listed_outcome Unnumbered NotAwaited = Unnumbered
listed_outcome Unnumbered Awaited = Unanswered
listed_outcome Unnumbered (Heard moment) = Acknowledged
listed_outcome Unanswered reply_ack = Unanswered
listed_outcome Acknowledged reply_ack = Acknowledged
listed_outcome Rejected reply_ack = Rejected

-- When a message of the listing was answered: by an answer to its id, or else by a reply-ack.
abbrev pub listed_settled : Option ℕ → ReplyAck → Option ℕ
listed_settled (Some answered) reply_ack = Some answered
listed_settled None NotAwaited = None
listed_settled None Awaited = None
listed_settled None (Heard moment) = Some moment

-- What the table tells of a message of the listing.
abbrev pub listed_told : MessageRow → Told
listed_told x = record {
  message = record {
    source = x.source;
    addressee = x.addressee.now;
    text = x.text.now;
    id = option_map (λ y. y.now) x.id;
  };
  state = x.state;
  first = x.first;
  last = x.last;
  answered = x.answered;
  reply_ack = x.reply_ack;
  gate = None;
  outcome = listed_outcome x.state x.reply_ack;
  settled = listed_settled x.answered x.reply_ack;
}

-- The line of a message of the listing.
abbrev pub listed_line : MessageRow → List ℕ
listed_line x = told_message_line (listed_told x)

-- ---- of a run of copies

-- What came of what could be answered, by its answer.
abbrev pub state_by_answer : Option Reply → MessageState
state_by_answer None = Unanswered
state_by_answer (Some a) = if a.is_rejection then Rejected else Acknowledged

-- What came of an id or a number, by its answer. Without one it is unnumbered.
abbrev pub state_with : Option (List ℕ) → Option Reply → MessageState
state_with None answer = Unnumbered
state_with (Some number) answer = state_by_answer answer

-- When the answer was heard, of an id or a number, where there is one.
abbrev pub answered_with : Option (List ℕ) → Option Reply → Option ℕ
answered_with None answer = None
answered_with (Some number) answer = option_map (λ (a : Reply). a.moment) answer

-- What a reply-ack says of a number, where there is one.
abbrev pub reply_ack_with : Option (List ℕ) → Option Reply → ReplyAck
reply_ack_with None reply = NotAwaited
reply_ack_with (Some number) None = Awaited
reply_ack_with (Some number) (Some a) = Heard a.moment

-- The number for reply-acks: none where the message has an id.
abbrev pub reply_number : Option (List ℕ) → List ℕ → Option (List ℕ)
reply_number (Some id) text = None
reply_number None text = trailing_number text

-- The earlier of two answers, and of two at one moment the first.
abbrev pub earlier_answer : Option Reply → Option Reply → Option Reply
earlier_answer None b = b
earlier_answer (Some a) None = Some a
earlier_answer (Some a) (Some b) = if nat_lt b.moment a.moment then Some b else Some a

-- What the table tells of a run, by the first ack or rej and the first reply-ack for its number.
abbrev pub sent_told : Sent → Option Reply → Option Reply → Told
sent_told r by_ack by_reply = record {
  message = r.message;
  state = state_with r.message.id by_ack;
  first = r.first;
  last = r.last;
  answered = answered_with r.message.id by_ack;
  reply_ack = reply_ack_with (reply_number r.message.id r.message.text) by_reply;
  gate = r.gate;
  outcome = state_with (message_number r.message) (earlier_answer by_ack by_reply);
  settled = answered_with (message_number r.message) (earlier_answer by_ack by_reply);
}

-- What is asked of the answers to a run's message: from whom, for what number, and in what form.
abbrev pub asked_by : Sent → List ℕ → Call → Bool → AskedAnswer
asked_by r number answerer is_reply =
    record { source = r.message.source; answerer = answerer; number = number; is_reply = is_reply }

-- The first answer to this number from this station, in the time of the run: from its first moment
-- less the book's gap on, and before the next run of the message begins. Without a number, or where
-- the addressee is no callsign, there is none.
abbrev pub IsAnswerBy : ℕ → List Reply → Sent → Bool → Option (List ℕ) → Option Call → Option Reply
    → Type 0
IsAnswerBy gap replies r is_reply (Some number) (Some call) answer =
    IsFirstAnswer replies (asked_by r number call is_reply) (r.first - gap) r.until answer
IsAnswerBy gap replies r is_reply (Some number) None answer = answer ≡ None
IsAnswerBy gap replies r is_reply None call answer = answer ≡ None

-- The first answer to a run's message, by a reply-ack or not: it is for the message's number, and
-- comes from its addressee.
abbrev pub IsAnswerTo : ℕ → List Reply → Sent → Bool → Option Reply → Type 0
IsAnswerTo gap replies r is_reply answer = IsAnswerBy gap replies r is_reply
    (message_number r.message) (spelled_call r.message.addressee) answer

-- This is what the table tells of a run, by these answers.
pub record IsToldRun (gap : ℕ) (replies : List Reply) (r : Sent) (t : Told) : Type 0 where
  pub by_ack : Option Reply
  pub by_reply : Option Reply
  pub is_ack : IsAnswerTo gap replies r false by_ack
  pub is_reply : IsAnswerTo gap replies r true by_reply
  pub told : t ≡ sent_told r by_ack by_reply

-- This is what the table tells of each run, in their order.
abbrev pub AreTold : ℕ → List Reply → List Sent → List Told → Type 0
AreTold gap replies [] [] = Unit {0}
AreTold gap replies [] (t ∷ ts) = ⊥
AreTold gap replies (r ∷ rs) [] = ⊥
AreTold gap replies (r ∷ rs) (t ∷ ts) = IsToldRun gap replies r t × AreTold gap replies rs ts

-- ---- as it is found among answers in order

-- The least answer that counts: an acknowledgement at the first moment less the gap.
abbrev pub least_reply : ℕ → Sent → List ℕ → Call → Bool → Reply
least_reply gap r number call is_reply = record {
  asked = asked_by r number call is_reply;
  moment = r.first - gap;
  is_rejection = false;
}

-- The first answer to this number from this station, as it is found among answers in order.
abbrev pub found_by : ℕ → List Reply → Sent → Bool → Option (List ℕ) → Option Call → Option Reply
found_by gap replies r is_reply (Some number) (Some call) =
    first_in_time (least_reply gap r number call is_reply) r.until replies
found_by gap replies r is_reply (Some number) None = None
found_by gap replies r is_reply None call = None

-- The first answer to a run's message, by a reply-ack or not, as it is found so.
abbrev pub answer_found : ℕ → List Reply → Sent → Bool → Option Reply
answer_found gap replies r is_reply = found_by gap replies r is_reply
    (message_number r.message) (spelled_call r.message.addressee)

-- What the table tells of a run, by the answers that are found so.
abbrev pub told_found : ℕ → List Reply → Sent → Told
told_found gap replies r =
    sent_told r (answer_found gap replies r false) (answer_found gap replies r true)

-- The line of a run, by the answers that are found so.
abbrev pub found_line : ℕ → List Reply → Sent → List ℕ
found_line gap replies r = told_message_line (told_found gap replies r)
