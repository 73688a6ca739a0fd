-- Each line of the tables has as many fields as its table has columns.
use Rattle.std.specs.Prelude.{◌≡◌, ℕ, List, length, All, Option, None, Some}
use Rattle.aprs_ax25.specs.Callsign.{Call, IsCall}
use Rattle.aprs_log.specs.Receiver.{IsName}
use Rattle.aprs_log.specs.Reception.{Received}
use Rattle.aprs_transmissions.specs.Key.{key_of}
use Rattle.aprs_transmissions.specs.Row.{Row}
use Rattle.aprs_summary.specs.Names.{ReportsOf, shown_thing}
use Rattle.aprs_summary.specs.declared.lists.named.Named.{Named}
use Rattle.aprs_summary.specs.declared.lists.station.Station.{Station}
use Rattle.aprs_table.specs.Shape.{IsField}
use Rattle.aprs_lists.specs.Lines.{tabbed_line}
use Rattle.aprs_lists.specs.Told.{Told, message_columns, told_message_line}
use Rattle.aprs_lists.specs.Stations.{station_columns, station_table_line}
use Rattle.aprs_lists.specs.Things.{thing_columns, thing_table_line}

-- The line has as many fields as there are of these columns, with a tab between two, and ends in
-- LF; no field has a tab or an LF.
pub record HasAllFieldsOf (columns : List (List ℕ)) (line : List ℕ) : Type 0 where
  pub fields : List (List ℕ)
  pub count : length fields ≡ length columns
  pub are_fields : All IsField fields
  pub whole : line ≡ tabbed_line fields

-- Where something is known, its receiver has a name.
abbrev pub HasName : Option Received → Type 0
HasName None = Unit {0}
HasName (Some x) = IsName x.receiver

-- Where a gate is known, it has a callsign.
abbrev pub HasCall : Option Call → Type 0
HasCall None = Unit {0}
HasCall (Some call) = IsCall call

-- The line of each message from a callsign, passed on by one or by none, has all fields.
abbrev pub MessageLinesHaveAllFields : Type 0
MessageLinesHaveAllFields = (t : Told) → IsCall t.message.source → HasCall t.gate
    → HasAllFieldsOf message_columns (told_message_line t)

-- The line of each station of any rows with a callsign that named receivers heard has all fields.
abbrev pub StationLinesHaveAllFields : Type 0
StationLinesHaveAllFields = (rows : List Row) (x : Station) → IsCall x.call → HasName x.position
    → HasName x.status → HasAllFieldsOf station_columns (station_table_line rows x)

-- The line of each object and item that a callsign reported to a named receiver has all fields.
abbrev pub ThingLinesHaveAllFields : Type 0
ThingLinesHaveAllFields = (x : Named) → ReportsOf (shown_thing x) (key_of x.heard.frame)
    → IsCall (key_of x.heard.frame).source → IsName x.heard.receiver
    → HasAllFieldsOf thing_columns (thing_table_line x)
