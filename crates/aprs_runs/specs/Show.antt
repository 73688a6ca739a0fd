-- The listing of a set, which is what showing inputs writes.
use Rattle.std.specs.Prelude.{◌≡◌, ◌≢◌, ℕ, List, [], ◌∷◌, ◌++◌, Option, codes}
use Rattle.std.specs.List.{flat_map}
use Rattle.std.specs.Fmt.{decimal}
use Rattle.aprs_ax25.specs.Callsign.{Call, call_text}
use Rattle.aprs_log.specs.Reception.{Received}
use Rattle.aprs_transmissions.specs.Best.{LastKnown}
use Rattle.aprs_transmissions.specs.BestLaws.{Passes}
use Rattle.aprs_transmissions.specs.Book.{BookOf}
use Rattle.aprs_transmissions.specs.Gap.{millis_of}
use Rattle.aprs_transmissions.specs.Lists.{◌∈◌}
use Rattle.aprs_transmissions.specs.Row.{Row}
use Rattle.aprs_summary.specs.Messages.{AreMessages}
use Rattle.aprs_summary.specs.Names.{AreNamed}
use Rattle.aprs_summary.specs.Reports.{reports_position}
use Rattle.aprs_summary.specs.Stations.{AreStations, IsSource}
use Rattle.aprs_summary.specs.declared.lists.message.MessageRow.{MessageRow}
use Rattle.aprs_summary.specs.declared.lists.named.Named.{Named}
use Rattle.aprs_summary.specs.declared.lists.station.Station.{Station}
use Rattle.aprs_lists.specs.Listing.{known_line, show_text, station_lines}
use Rattle.aprs_table.specs.SpacedLine.{spaced_line}

-- ---- the listing of a set

-- The text is that of the stations, the objects and items, and the messages of S, whose book has a
-- gap of so many seconds.
pub record IsListingOf (gap : ℕ) (S : List Received) (text : List ℕ) : Type 0 where
  pub rows : List Row
  pub stations : List Station
  pub named : List Named
  pub messages : List MessageRow
  pub book : BookOf (millis_of gap) S rows
  pub are_stations : AreStations S rows stations
  pub are_named : AreNamed S named
  pub are_messages : AreMessages S messages
  pub text_is : text ≡ show_text stations named messages

-- ---- the positions in it

-- The text has a line of this station, and right after it the position line of `known`, if that is
-- a reception. Only lines of other stations stand before.
pub record TellsPosition (text : List ℕ) (call : Call) (known : Option Received) : Type 0 where
  pub before : List Station
  pub transmissions : ℕ
  pub after : List ℕ
  pub others : (x : Station) → x ∈ before → x.call ≢ call
  pub text_is : text ≡ flat_map station_lines before
      ++ (spaced_line (codes "station") (call_text call ∷ decimal transmissions ∷ [])
      ++ (known_line known ++ after))

-- The listing of any set has, for each source in the set, the position that is the set's greatest
-- reception of a position report from it, if there is one.
abbrev pub ListingsTellPositions : ℕ → Type 0
ListingsTellPositions gap = (S : List Received) (text : List ℕ) (call : Call)
    (known : Option Received)
    → IsListingOf gap S text → IsSource S call → LastKnown S (Passes (reports_position call)) known
    → TellsPosition text call known
