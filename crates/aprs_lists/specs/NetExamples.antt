-- Copies and answers that the worked examples are about.
use Rattle.std.specs.Prelude.{ℕ, Bool, true, false, List, Option, None, Some, codes}
use Rattle.aprs_transmissions.specs.Examples.{n0call}
use Rattle.aprs_summary.specs.Examples.{lent}
use Rattle.aprs_lists.specs.Answers.{AskedAnswer, Reply}
use Rattle.aprs_lists.specs.declared.net.answers.Answer.{Answer}
use Rattle.aprs_lists.specs.Copies.{Copy}
use Rattle.aprs_summary.specs.Messages.{Message}
use Rattle.aprs_summary.specs.declared.lists.message.MessageState.TheVariants.{Unnumbered, Unanswered, Acknowledged, Rejected}
use Rattle.aprs_summary.specs.declared.lists.reply_ack.ReplyAck.TheVariants.{Awaited, Heard}
use Rattle.aprs_lists.specs.Examples.{message_to}
use Rattle.aprs_lists.specs.Runs.{Sent}
use Rattle.aprs_lists.specs.Told.{Told}

-- The message `Hi` from N0CALL-7 to N0CALL-8, of the id 1.
abbrev pub hi : Message
hi = message_to (codes "N0CALL-8") (codes "Hi") (Some (codes "1"))

-- A copy of it that its sender sent.
abbrev pub said : ℕ → ℕ → Copy
said first last = record { message = hi; first = first; gate = None; last = last }

-- A copy of it that N0CALL of this SSID passed on.
abbrev pub copy_by : ℕ → ℕ → ℕ → Copy
copy_by ssid first last =
    record { message = hi; first = first; gate = Some (n0call ssid); last = last }

-- A copy of it that N0CALL-1 passed on.
abbrev pub other_at : ℕ → ℕ → Copy
other_at first last = copy_by 1 first last

-- A copy of a message of this text that its sender sent.
abbrev pub copy_of_text : List ℕ → ℕ → ℕ → Copy
copy_of_text text first last = record {
  message = message_to (codes "N0CALL-8") text (Some (codes "1"));
  first = first;
  gate = None;
  last = last;
}

-- A run of it, without a gate.
abbrev pub sent : ℕ → ℕ → Option ℕ → Sent
sent first last until = record {
  message = hi;
  first = first;
  last = last;
  gate = None;
  until = until;
}

-- A run of a message from 100 to 200.
abbrev pub run_of : Message → Sent
run_of m = record (sent 100 200 None) { message = m }

-- A run of the message `Hi{1}`, which has no id, but the number 1 for reply-acks.
abbrev pub numbered : Sent
numbered = run_of (message_to (codes "N0CALL-8") (codes "Hi{1}") None)

-- What is asked of the answers by one station to a number of the other's messages, both N0CALL.
abbrev pub asked : ℕ → ℕ → List ℕ → Bool → AskedAnswer
asked source answerer number is_reply = record {
  source = n0call source;
  answerer = n0call answerer;
  number = number;
  is_reply = is_reply;
}

-- An answer to it, by a reply-ack or not.
abbrev pub answer_at : Bool → Bool → ℕ → Reply
answer_at is_reply is_rejection moment = record {
  asked = asked 7 8 (codes "1") is_reply;
  moment = moment;
  is_rejection = is_rejection;
}

-- Its acknowledgement.
abbrev pub ack_at : ℕ → Reply
ack_at moment = answer_at false false moment

-- Its rejection.
abbrev pub rej_at : ℕ → Reply
rej_at moment = answer_at false true moment

-- A reply-ack of its number.
abbrev pub reply_at : ℕ → Reply
reply_at moment = answer_at true false moment

-- The acknowledgement of a number by N0CALL of this SSID.
abbrev pub answer_by : ℕ → List ℕ → ℕ → Reply
answer_by ssid number moment = record {
  asked = asked 7 ssid number false;
  moment = moment;
  is_rejection = false;
}

-- The acknowledgement of a number by N0CALL-8, as the code has it.
abbrev pub coded_ack : List ℕ → ℕ → Answer
coded_ack number moment = record {
  question = record {
    source = n0call 7;
    answerer = n0call 8;
    number = lent number;
    is_reply = false;
  };
  moment = moment;
  is_rejection = false;
}

-- ---- lines

-- What is told of it, each part another.
abbrev pub told_all : Told
told_all = record {
  message = hi;
  state = Rejected;
  first = 1;
  last = 2;
  answered = Some 3;
  reply_ack = Heard 4;
  gate = Some (n0call 1);
  outcome = Acknowledged;
  settled = Some 5;
}

-- What is told of a message with a number for reply-acks, which isn't answered.
abbrev pub told_awaited : Told
told_awaited = record {
  message = message_to (codes "N0CALL-8") (codes "Hi{05}") None;
  state = Unnumbered;
  first = 1;
  last = 2;
  answered = None;
  reply_ack = Awaited;
  gate = None;
  outcome = Unanswered;
  settled = None;
}
