-- Messages, answers, reports and rows that the worked examples are about.
use Rattle.std.specs.Prelude.{◌≡◌, ◌⊎◌, ℕ, Bool, true, false, List, [], ◌∷◌, Option, None, codes}
use Rattle.aprs_log.specs.Reception.{Received}
use Rattle.aprs_transmissions.specs.Examples.{example_row, n0call, reception_at, rx1}
use Rattle.aprs_transmissions.specs.Row.{Row}
use Rattle.aprs_lists.specs.Answers.{Reply}
use Rattle.aprs_summary.specs.Messages.{Message}
use Rattle.aprs_lists.specs.Runs.{Sent}
use Rattle.aprs_summary.specs.Examples.{heard_by}

-- What N0CALL-7 sends to an addressee, with an id or none.
abbrev pub message_to : List ℕ → List ℕ → Option (List ℕ) → Message
message_to addressee text id =
    record { source = n0call 7; addressee = addressee; text = text; id = id }

-- The same to N0CALL-8, without an id.
abbrev pub text_to : List ℕ → Message
text_to text = message_to (codes "N0CALL-8") text None

-- `Hi` to an addressee, without an id.
abbrev pub hi_to : List ℕ → Message
hi_to addressee = message_to addressee (codes "Hi") None

-- An answer of N0CALL-8 to the number 1 at a moment.
abbrev pub answered : Bool → Bool → ℕ → Reply
answered is_reply is_rejection moment = record {
  asked =
      record { source = n0call 7; answerer = n0call 8; number = codes "1"; is_reply = is_reply };
  moment = moment;
  is_rejection = is_rejection;
}

-- Its acknowledgement.
abbrev pub ack_at : ℕ → Reply
ack_at moment = answered false false moment

-- Its rejection.
abbrev pub rej_at : ℕ → Reply
rej_at moment = answered false true moment

-- A reply-ack of it.
abbrev pub reply_at : ℕ → Reply
reply_at moment = answered true false moment

-- A message of this text and id, sent once from 5 to 9.
abbrev pub sent_as : List ℕ → Option (List ℕ) → Sent
sent_as text id = record {
  message = message_to (codes "N0CALL-8") text id;
  first = 5;
  last = 9;
  gate = None;
  until = None;
}

-- What RX1 heard at a moment.
abbrev pub heard_at : ℕ → Received
heard_at moment = reception_at moment rx1 []

-- A row of a frame from N0CALL with this SSID, at one moment.
abbrev pub row_by : ℕ → ℕ → List ℕ → Row
row_by ssid moment info = example_row moment (rx1 ∷ []) (heard_by ssid moment info)

-- Two statuses of N0CALL-7, one of N0CALL-8, and one of N0CALL-9 that N0CALL-8 passed on.
abbrev pub active_rows : List Row
active_rows = row_by 7 40 (codes ">Hi") ∷ row_by 7 30 (codes ">Ho") ∷ row_by 8 20 (codes ">Hi")
    ∷ row_by 8 50 (codes "}N0CALL-9>APRS:>Hi") ∷ []

-- The moment is 0 or 20.
abbrev pub IsZeroOrTwenty : ℕ → Type 0
IsZeroOrTwenty m = (m ≡ 0) ⊎ (m ≡ 20)
