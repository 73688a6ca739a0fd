-- The rows of each station.
use Rattle.std.specs.Prelude.{◌≡◌, ◌+◌, ◌<◌, ⊤, ℕ, List, Option, None, Some}
use Rattle.std.specs.Map.{lookup}
use Rattle.std.specs.BTreeMap.{is_at, insert_entry}
use Rattle.std.specs.List.{count_by}
use Rattle.aprs_ax25.specs.Callsign.{Call, call_cmp}
use Rattle.aprs_transmissions.specs.Lists.{◌∈◌}
use Rattle.aprs_transmissions.specs.Order.{IsBelow}
use Rattle.aprs_transmissions.specs.Key.{Key}
use Rattle.aprs_transmissions.specs.Row.{Row, row_key}
use Rattle.aprs_summary.specs.declared.lists.station.Station.{Station}
use Rattle.aprs_summary.specs.declared.lists.tally.Tally.{Tally}
use Rattle.aprs_summary.specs.Reports.{has_source}
use Rattle.aprs_summary.specs.Known.{FourIndexes, call_bytes, index_of, known_at, positions, statuses}
use Rattle.aprs_summary.specs.MessageRows.{IsCollected}

-- The station that sent a row.
abbrev pub source_of : Row → Call
source_of r = (row_key r).source

-- A key from this station.
abbrev pub IsFrom : Call → Key → Type 0
IsFrom call k = k.source ≡ call

-- A count, or 0 where there is none.
abbrev pub count_in : Option ℕ → ℕ
count_in None = 0
count_in (Some n) = n

-- n is the number of the rows of this station.
abbrev pub IsTally : List Row → Call → ℕ → Type 0
IsTally rows call n = n ≡ count_by (λ (r : Row). has_source call (row_key r)) rows

-- A station of the rows, and how many it has.
abbrev pub IsTallyEntry : List Row → Call → ℕ → Type 0
IsTallyEntry rows call n =
    ((r : Row) × (r ∈ rows) × IsFrom call (row_key r)) × IsTally rows call n

-- A callsign as it is.
abbrev pub itself : Call → Call
itself call = call

-- One entry for each source of the rows, with the number of its rows.
abbrev pub AreTallies : List Row → List (Call × ℕ) → Type 0
AreTallies rows entries = IsCollected itself IsFrom IsTallyEntry rows entries

-- How many rows a station has by these entries.
abbrev pub tally_of : Call → List (Call × ℕ) → ℕ
tally_of call es = count_in (lookup (is_at (call_cmp call)) es)

-- The entries with one more row of a station.
abbrev pub with_one_more : Call → List (Call × ℕ) → List (Call × ℕ)
with_one_more call es = insert_entry call_cmp es call (tally_of call es + 1)

-- The entries, with the rows of the station that was counted last, if there is one.
abbrev pub with_last : Option Tally → List (Call × ℕ) → List (Call × ℕ)
with_last None es = es
with_last (Some t) es = insert_entry call_cmp es t.station (tally_of t.station es + t.rows)

-- With the rows of the station that was counted last, if there is one, its number is below 2^64.
abbrev pub LastFits : Option Tally → List (Call × ℕ) → Type 0
LastFits None es = ⊤
LastFits (Some t) es = tally_of t.station es + t.rows < 18446744073709551616

-- The one's callsign is below the other's.
abbrev pub IsStationBefore : Call × ℕ → Call × ℕ → Type 0
IsStationBefore a b = IsBelow call_cmp a.0 b.0

-- A station with what the indexes know of it.
abbrev pub station_in : FourIndexes → Call × ℕ → Station
station_in indexes e = record {
  call = e.0;
  transmissions = e.1;
  position = known_at (call_bytes e.0) (index_of positions indexes);
  status = known_at (call_bytes e.0) (index_of statuses indexes);
}
