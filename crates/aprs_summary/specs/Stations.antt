-- The stations of a set of receptions.
use Rattle.std.specs.Prelude.{ℕ, ◌≡◌, ◌↔◌, List}
use Rattle.std.specs.List.{count_by}
use Rattle.aprs_ax25.specs.Callsign.{Call, call_cmp}
use Rattle.aprs_log.specs.Reception.{Received}
use Rattle.aprs_transmissions.specs.Lists.{◌∈◌, Ordered}
use Rattle.aprs_transmissions.specs.Order.{IsBelow}
use Rattle.aprs_transmissions.specs.Key.{key_of}
use Rattle.aprs_transmissions.specs.Row.{Row, row_key}
use Rattle.aprs_transmissions.specs.Book.{BookOf}
use Rattle.aprs_transmissions.specs.Best.{LastKnown}
use Rattle.aprs_transmissions.specs.BestLaws.{Passes}
use Rattle.aprs_summary.specs.declared.lists.station.Station.{Station}
use Rattle.aprs_summary.specs.Reports.{has_source, reports_position, reports_status}

-- S has a reception from this station.
abbrev pub IsSource : List Received → Call → Type 0
IsSource S call = (s : Received) × (s ∈ S) × ((key_of s.frame).source ≡ call)

-- The one's callsign is below the other's.
abbrev pub ComesBefore : Station → Station → Type 0
ComesBefore x y = IsBelow call_cmp x.call y.call

-- A station has the number of its rows in the book of S, and what is last known of it in S.
pub record IsStation (S : List Received) (rows : List Row) (x : Station) : Type 0 where
  pub transmissions : x.transmissions ≡ count_by (λ (r : Row). has_source x.call (row_key r)) rows
  pub position : LastKnown S (Passes (reports_position x.call)) x.position
  pub status : LastKnown S (Passes (reports_status x.call)) x.status

-- One row for each source in S, in order of callsigns.
pub record AreStations (S : List Received) (rows : List Row) (xs : List Station) : Type 0 where
  pub ascending : Ordered ComesBefore xs
  pub sources : (call : Call) → ((x : Station) × (x ∈ xs) × (x.call ≡ call)) ↔ IsSource S call
  pub each : (x : Station) → x ∈ xs → IsStation S rows x

-- Whatever set the rows are the book of, these are its stations.
abbrev pub ReportsStations : ℕ → List Row → List Station → Type 0
ReportsStations gap rows xs = (S : List Received) → BookOf gap S rows → AreStations S rows xs
