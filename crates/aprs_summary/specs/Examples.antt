-- Receptions and rows of the lists that the worked examples are about.
use Rattle.std.specs.Prelude.{ℕ, ◌+◌, ◌*◌, Bool, List, [], ◌∷◌, Option, None, Some, codes}
use denote.Ref.{Bor}
use Rattle.aprs_log.specs.Reception.{Received}
use Rattle.aprs_transmissions.specs.Row.{Row}
use Rattle.aprs_transmissions.specs.Examples.{n0call, rx1, reception_at, example_row}
use Rattle.aprs_summary.specs.declared.lists.message.MessageRow.{MessageRow}
use Rattle.aprs_summary.specs.declared.lists.message.MessageState.{MessageState}
use Rattle.aprs_summary.specs.declared.lists.named.Named.{Named}
use Rattle.aprs_summary.specs.declared.lists.reply_ack.ReplyAck.TheVariants.{NotAwaited}
use Rattle.aprs_summary.specs.declared.lists.station.Station.{Station}
use Rattle.aprs_summary.specs.Messages.{Message}

-- A frame from N0CALL of this SSID to APRS with this information.
abbrev pub frame_by : ℕ → List ℕ → List ℕ
frame_by ssid info =
    0x82 ∷ 0xA0 ∷ 0xA4 ∷ 0xA6 ∷ 0x40 ∷ 0x40 ∷ 0xE0
    ∷ 0x9C ∷ 0x60 ∷ 0x86 ∷ 0x82 ∷ 0x98 ∷ 0x98 ∷ (0x61 + 2 * ssid) ∷ 0x03 ∷ 0xF0 ∷ info

-- That frame, as RX1 heard it at a moment.
abbrev pub heard_by : ℕ → ℕ → List ℕ → Received
heard_by ssid moment info = reception_at moment rx1 (frame_by ssid info)

-- Bytes that are lent.
abbrev pub lent : List ℕ → Bor (List ℕ)
lent bytes = record { ref_ptr = (0, 0); now = bytes }

-- ---- messages

-- What N0CALL with this SSID sends to an addressee.
abbrev pub message_by : ℕ → List ℕ → List ℕ → Option (List ℕ) → Message
message_by ssid addressee text id =
    record { source = n0call ssid; addressee = addressee; text = text; id = id }

-- The message `Hi` from N0CALL-7 to N0CALL-8, of this id.
abbrev pub hi_message : Option (List ℕ) → Message
hi_message id = message_by 7 (codes "N0CALL-8") (codes "Hi") id

-- The id 1.
abbrev pub one : Option (List ℕ)
one = Some (codes "1")

-- That message with the id 1, as it is heard.
abbrev pub asked_at : ℕ → Received
asked_at moment = heard_by 7 moment (codes ":N0CALL-8 :Hi{1")

-- Its acknowledgement.
abbrev pub acknowledged_at : ℕ → Received
acknowledged_at moment = heard_by 8 moment (codes ":N0CALL-7 :ack1")

-- Its rejection.
abbrev pub rejected_at : ℕ → Received
rejected_at moment = heard_by 8 moment (codes ":N0CALL-7 :rej1")

-- Its row of the list, of these moments, this state and this moment of its answer.
abbrev pub hi_listed : ℕ → ℕ → MessageState → Option ℕ → MessageRow
hi_listed first last state answered = record {
  source = n0call 7;
  addressee = lent (codes "N0CALL-8");
  text = lent (codes "Hi");
  id = Some (lent (codes "1"));
  first = first;
  last = last;
  state = state;
  answered = answered;
  reply_ack = NotAwaited;
}

-- It is sent, acknowledged, and sent once more.
abbrev pub asked_again : List Received
asked_again = asked_at 0 ∷ acknowledged_at 10 ∷ asked_at 20 ∷ []

-- A message from N0CALL-7 to N0CALL-8 whose text has the number 19.
abbrev pub numbered_message : Message
numbered_message = message_by 7 (codes "N0CALL-8") (codes "Hi{19}") None

-- That message, as it is heard.
abbrev pub numbered_at : ℕ → Received
numbered_at moment = heard_by 7 moment (codes ":N0CALL-8 :Hi{19}")

-- A message that acknowledges it.
abbrev pub replied_at : ℕ → Received
replied_at moment = heard_by 8 moment (codes ":N0CALL-7 :Yes{20}19")

-- An acknowledgement of the id 19, which no message has.
abbrev pub other_ack_at : ℕ → Received
other_ack_at moment = heard_by 8 moment (codes ":N0CALL-7 :ack19")

-- ---- stations

-- A status of N0CALL with this SSID, heard at this moment.
abbrev pub status_at : ℕ → ℕ → Received
status_at ssid moment = heard_by ssid moment (codes ">Hi")

-- A position of N0CALL-7.
abbrev pub position_at : ℕ → Received
position_at moment = heard_by 7 moment (codes "!4903.50N/07201.75W-")

-- A status of N0CALL-7, which is heard twice in one transmission, its position, and a status of
-- N0CALL-8.
abbrev pub two_stations : List Received
two_stations = status_at 7 0 ∷ status_at 7 30000 ∷ position_at 0 ∷ status_at 8 0 ∷ []

-- The rows of `two_stations`.
abbrev pub two_stations_rows : List Row
two_stations_rows =
    example_row 0 (rx1 ∷ []) (position_at 0) ∷ example_row 0 (rx1 ∷ []) (status_at 7 30000)
    ∷ example_row 0 (rx1 ∷ []) (status_at 8 0) ∷ []

-- A station of the list, N0CALL with this SSID.
abbrev pub station_of : ℕ → ℕ → Option Received → Option Received → Station
station_of ssid transmissions position status = record {
  call = n0call ssid;
  transmissions = transmissions;
  position = position;
  status = status;
}

-- ---- objects and items

-- N0CALL-7 reports the object LEADER.
abbrev pub object_at : ℕ → Received
object_at moment = heard_by 7 moment (codes ";LEADER   *092345z4903.50N/07201.75W>")

-- N0CALL-8 kills it.
abbrev pub killed_at : ℕ → Received
killed_at moment = heard_by 8 moment (codes ";LEADER   _092345z4903.50N/07201.75W>")

-- N0CALL-7 reports the item LEADER.
abbrev pub item_at : ℕ → Received
item_at moment = heard_by 7 moment (codes ")LEADER!4903.50N/07201.75W>")

-- An object LEADER that another station kills, and an item LEADER.
abbrev pub two_leaders : List Received
two_leaders = item_at 20 ∷ object_at 0 ∷ killed_at 10 ∷ []

-- LEADER in the list, an item or an object.
abbrev pub leader_listed : Bool → Received → Named
leader_listed is_item heard =
    record { is_item = is_item; name = lent (codes "LEADER"); heard = heard }
