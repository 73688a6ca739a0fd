-- The table of the stations of a book.
use Rattle.std.specs.Prelude.{◌≡◌, ℕ, List, [], ◌∷◌, ◌++◌, Option, None, Some, codes}
use Rattle.std.specs.Fmt.{decimal}
use Rattle.std.specs.List.{flat_map}
use Rattle.aprs_ax25.specs.Callsign.{Call, call_text}
use Rattle.aprs_io.specs.Shown.{shown_text}
use Rattle.aprs_log.specs.Moment.{moment_text}
use Rattle.aprs_log.specs.Reception.{Received}
use Rattle.aprs_report.specs.Reading.{Value, position, status}
use Rattle.aprs_transmissions.specs.BookValue.{BookValue}
use Rattle.aprs_transmissions.specs.Gap.{millis_of}
use Rattle.aprs_transmissions.specs.Key.{key_of}
use Rattle.aprs_transmissions.specs.Row.{Row}
use Rattle.aprs_summary.specs.Reports.{report_of}
use Rattle.aprs_summary.specs.Stations.{ReportsStations}
use Rattle.aprs_summary.specs.declared.lists.station.Station.{Station}
use Rattle.aprs_table.specs.Cells.{stamp_field}
use Rattle.aprs_lists.specs.Activity.{frames_passed, heard_kept, heard_last, kept_of, passed_kept}
use Rattle.aprs_lists.specs.Lines.{tabbed_line}
use Rattle.aprs_lists.specs.Things.{placed_fields}
use Rattle.aprs_lists.specs.Told.{moment_or_nothing}
use Rattle.aprs_lists.specs.declared.activity.Activity.{Activity}

-- The names of the columns.
abbrev pub station_columns : List (List ℕ)
station_columns = codes "source" ∷ codes "transmissions" ∷ codes "last" ∷ codes "receiver"
    ∷ codes "stamp" ∷ codes "latitude" ∷ codes "longitude" ∷ codes "ambiguity"
    ∷ codes "compressed" ∷ codes "symbol" ∷ codes "text" ∷ codes "status_last"
    ∷ codes "status_receiver" ∷ codes "status_stamp" ∷ codes "status_text" ∷ codes "heard"
    ∷ codes "passed" ∷ []

-- Nine empty fields, where no position is known.
abbrev pub no_position : List (List ℕ)
no_position = [] ∷ [] ∷ [] ∷ [] ∷ [] ∷ [] ∷ [] ∷ [] ∷ [] ∷ []

-- Four empty fields, where no status is known.
abbrev pub no_status : List (List ℕ)
no_status = [] ∷ [] ∷ [] ∷ [] ∷ []

-- When and by whom a position was heard, and where it is; empty fields for any other report, as for
-- a Mic-E position.
abbrev pub position_in : Received → Value → List (List ℕ)
position_in x (position messaging stamp place symbol comment) =
    moment_text x.moment ∷ x.receiver ∷ placed_fields stamp place symbol comment
position_in x v = no_position

-- When and by whom a status was heard, its time stamp and its text; empty fields for any other
-- report.
abbrev pub status_in : Received → Value → List (List ℕ)
status_in x (status stamp text) =
    moment_text x.moment ∷ x.receiver ∷ stamp_field stamp ∷ shown_text text ∷ []
status_in x v = no_status

-- The fields of the position that a reception reports.
abbrev pub heard_position : Received → List (List ℕ)
heard_position x = position_in x (report_of (key_of x.frame))

-- The fields of the status that a reception reports.
abbrev pub heard_status : Received → List (List ℕ)
heard_status x = status_in x (report_of (key_of x.frame))

-- The fields of the position that is last known, if one is.
abbrev pub position_fields : Option Received → List (List ℕ)
position_fields None = no_position
position_fields (Some x) = heard_position x

-- The fields of the status that is last known, if one is.
abbrev pub status_fields : Option Received → List (List ℕ)
status_fields None = no_status
status_fields (Some x) = heard_status x

-- When a station was heard last, whatever it sent, and how many frames of others it passed on.
abbrev pub activity_fields : Option ℕ → ℕ → List (List ℕ)
activity_fields heard passed = moment_or_nothing heard ∷ decimal passed ∷ []

-- The callsign of a station, the number of its transmissions, its last known position and status,
-- and these fields of how active it was.
abbrev pub station_fields : Station → List (List ℕ) → List (List ℕ)
station_fields x activity = call_text x.call ∷ decimal x.transmissions
    ∷ position_fields x.position ++ (status_fields x.status ++ activity)

-- The line of a station, with these fields of how active it was.
abbrev pub station_line_with : Station → List (List ℕ) → List ℕ
station_line_with x activity = tabbed_line (station_fields x activity)

-- The line of a station of these rows.
abbrev pub station_table_line : List Row → Station → List ℕ
station_table_line rows x =
    station_line_with x (activity_fields (heard_last x.call rows) (frames_passed x.call rows))

-- The names of the columns, and one line for each station of these rows, in their order.
abbrev pub stations_table : List Row → List Station → List ℕ
stations_table rows stations =
    tabbed_line station_columns ++ flat_map (station_table_line rows) stations

-- The text is the table of the stations of the book's rows, whichever receptions these come from.
pub record IsStationsTable (book : BookValue) (text : List ℕ) : Type 0 where
  pub stations : List Station
  pub are_stations : ReportsStations (millis_of book.gap) book.rows stations
  pub text_is : text ≡ stations_table book.rows stations

-- ---- in the code

-- The line of a station, by what is kept of how active it was.
abbrev pub station_line_by : Station → Option Activity → List ℕ
station_line_by x known =
    station_line_with x (activity_fields (heard_kept known) (passed_kept known))

-- The line of a station, with what is kept of it among these entries.
abbrev pub station_line_in : List (Call × Activity) → Station → List ℕ
station_line_in es x = station_line_by x (kept_of x.call es)
