-- Receptions and rows that the worked examples are about.
use Rattle.std.specs.Prelude.{◌≡◌, ℕ, ◌+◌, ◌*◌, Bool, true, List, [], ◌∷◌, codes}
use Rattle.aprs_ax25.specs.Callsign.{Call}
pub use Rattle.aprs_log.specs.Examples.{hi_frame}
use Rattle.aprs_log.specs.Reception.{Received}
use Rattle.aprs_transmissions.specs.Key.{Key}
use Rattle.aprs_transmissions.specs.Row.{Row}
use Rattle.aprs_transmissions.specs.BookValue.{BookValue}
use Rattle.aprs_transmissions.specs.Taken.{Step, Take, Merge}

-- N0CALL-7>APRS,WIDE1-1*:>Hi
abbrev pub hi_after_digipeater : List ℕ
hi_after_digipeater =
    130 ∷ 160 ∷ 164 ∷ 166 ∷ 64 ∷ 64 ∷ 224 ∷ 156 ∷ 96 ∷ 134 ∷ 130 ∷ 152 ∷ 152 ∷ 110
    ∷ 174 ∷ 146 ∷ 136 ∷ 138 ∷ 98 ∷ 64 ∷ 227 ∷ 3 ∷ 240 ∷ 62 ∷ 72 ∷ 105 ∷ []

-- The frame of `hi_after_digipeater`, with the C bits the other way round.
abbrev pub hi_as_response : List ℕ
hi_as_response =
    130 ∷ 160 ∷ 164 ∷ 166 ∷ 64 ∷ 64 ∷ 96 ∷ 156 ∷ 96 ∷ 134 ∷ 130 ∷ 152 ∷ 152 ∷ 238
    ∷ 174 ∷ 146 ∷ 136 ∷ 138 ∷ 98 ∷ 64 ∷ 227 ∷ 3 ∷ 240 ∷ 62 ∷ 72 ∷ 105 ∷ []

-- N0CALL-8>APRS:>Hi
abbrev pub of_other : List ℕ
of_other =
    130 ∷ 160 ∷ 164 ∷ 166 ∷ 64 ∷ 64 ∷ 224 ∷ 156 ∷ 96 ∷ 134 ∷ 130 ∷ 152 ∷ 152 ∷ 113
    ∷ 3 ∷ 240 ∷ 62 ∷ 72 ∷ 105 ∷ []

-- N0CALL-7>APRS:>Hi, where the destination has this SSID
abbrev pub hi_to : ℕ → List ℕ
hi_to ssid =
    130 ∷ 160 ∷ 164 ∷ 166 ∷ 64 ∷ 64 ∷ (224 + 2 * ssid) ∷ 156 ∷ 96 ∷ 134 ∷ 130 ∷ 152 ∷ 152
    ∷ 111 ∷ 3 ∷ 240 ∷ 62 ∷ 72 ∷ 105 ∷ []

-- The key of `hi_frame`, `hi_after_digipeater` and `hi_as_response`.
abbrev pub hi_key : Key
hi_key = record {
  source = record { characters = codes "N0CALL"; ssid = 7 };
  destination = record { characters = codes "APRS"; ssid = 0 };
  info = codes ">Hi";
}

-- N0CALL with an SSID.
abbrev pub n0call : ℕ → Call
n0call ssid = record { characters = codes "N0CALL"; ssid = ssid }

-- A property that each key has.
abbrev pub is_any_key : Key → Bool
is_any_key key = true

-- A receiver.
abbrev pub rx1 : List ℕ
rx1 = codes "RX1"

-- Another receiver, after the first.
abbrev pub rx2 : List ℕ
rx2 = codes "RX2"

-- A reception of these parts.
abbrev pub reception_at : ℕ → List ℕ → List ℕ → Received
reception_at moment receiver frame = record { moment = moment; receiver = receiver; frame = frame }

-- A row of these parts.
abbrev pub example_row : ℕ → List (List ℕ) → Received → Row
example_row first receivers greatest =
    record { first = first; receivers = receivers; greatest = greatest }

-- Heard by RX1 at a moment.
abbrev pub by_rx1 : ℕ → Received
by_rx1 moment = reception_at moment rx1 hi_frame

-- Heard by RX2 through a digipeater, at moment 0.
abbrev pub early : Received
early = reception_at 0 rx2 hi_after_digipeater

-- The standard gap, in milliseconds.
abbrev pub half_minute : ℕ
half_minute = 30000

-- Two receptions 30 seconds apart.
abbrev pub near_pair : List Received
near_pair = by_rx1 30000 ∷ early ∷ []

-- The row of `near_pair`.
abbrev pub near_row : Row
near_row = example_row 0 (rx1 ∷ rx2 ∷ []) (by_rx1 30000)

-- Two receptions 30,001 milliseconds apart.
abbrev pub far_pair : List Received
far_pair = by_rx1 30001 ∷ early ∷ []

-- The row of the earlier reception of `far_pair`.
abbrev pub early_row : Row
early_row = example_row 0 (rx2 ∷ []) early

-- The row of the later reception of `far_pair`.
abbrev pub late_row : Row
late_row = example_row 30001 (rx1 ∷ []) (by_rx1 30001)

-- The rows `early_row` and `late_row` as a book under a gap in seconds. They are near from 31 on.
abbrev pub book_under : ℕ → BookValue
book_under gap = record { gap = gap; rows = early_row ∷ late_row ∷ [] }

-- Two receptions at one moment.
abbrev pub tied_pair : List Received
tied_pair = by_rx1 0 ∷ early ∷ []

-- The row of `tied_pair`.
abbrev pub tied_row : Row
tied_row = example_row 0 (rx1 ∷ rx2 ∷ []) early

-- By two receivers in two milliseconds, where the last reception is by the lesser receiver.
abbrev pub short_row : Row
short_row = example_row 0 (rx1 ∷ rx2 ∷ []) (by_rx1 1)

-- A row that begins 30 seconds after the early one.
abbrev pub close_row : Row
close_row = example_row 30000 (rx1 ∷ []) (by_rx1 30000)

-- A row of one receiver at one moment.
abbrev pub row_at : ℕ → Row
row_at moment = example_row moment (rx1 ∷ []) (by_rx1 moment)

-- A row of one receiver from one moment to another.
abbrev pub row_to : ℕ → ℕ → Row
row_to first last = example_row first (rx1 ∷ []) (by_rx1 last)

-- A key from N0CALL with this SSID to N0CALL, with this information.
abbrev pub key_by : ℕ → List ℕ → Key
key_by ssid info = record { source = n0call ssid; destination = n0call 0; info = info }

-- A key from N0CALL to N0CALL, with these SSIDs and this information.
abbrev pub key_to : ℕ → ℕ → List ℕ → Key
key_to from to info = record { source = n0call from; destination = n0call to; info = info }

-- Heard by RX1 at moment 0, sent to APRS with this SSID.
abbrev pub sent_to : ℕ → Received
sent_to ssid = reception_at 0 rx1 (hi_to ssid)

-- Place 0 takes a reception, place 1 takes what place 0 has, and then place 0 takes one more.
abbrev pub take_merge_take : List Step
take_merge_take = Take 0 (by_rx1 0) ∷ Merge 1 0 ∷ Take 0 (by_rx1 30001) ∷ []

-- Two places take a reception each, then each what the other has, and then place 0 what it has
-- itself.
abbrev pub back_and_forth : List Step
back_and_forth =
    Take 0 (by_rx1 0) ∷ Take 1 (reception_at 20 rx2 hi_frame)
    ∷ Merge 0 1 ∷ Merge 1 0 ∷ Merge 0 0 ∷ []

-- A join that answers the first value.
abbrev pub TakesFirst : Received → Received → Received → Type 0
TakesFirst a b c = c ≡ a
