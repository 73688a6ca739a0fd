-- The text of a listing.
use Rattle.aprs_lists.proofs.Common.{◌≡◌, ◌∷◌, ◌++◌, [], List, ap, flat_map, map, refl, BookValue, Received, millis_of}
use Rattle.aprs_lists.proofs.ThingLines.{all_shown, listed}
use Rattle.aprs_summary.specs.Messages.{ReportsMessages}
use Rattle.aprs_summary.specs.Names.{ReportsNamed, Thing, shown_report}
use Rattle.aprs_summary.specs.Stations.{ReportsStations}
use Rattle.aprs_summary.specs.declared.lists.message.MessageRow.{MessageRow}
use Rattle.aprs_summary.specs.declared.lists.named.Named.{Named}
use Rattle.aprs_summary.specs.declared.lists.station.Station.{Station}
use Rattle.aprs_lists.specs.Listing.{IsShown, message_line, named_line, station_lines, thing_line}

named_lines : (reports : List (Thing × Received))
    → flat_map thing_line reports ≡ flat_map named_line (map listed reports)
named_lines [] = refl
named_lines (r ∷ reports) = ap (λ l. thing_line r ++ l) (named_lines reports)

pub is_shown : (b : BookValue) (stations : List Station) (reports : List (Thing × Received))
    (messages : List MessageRow) → ReportsStations (millis_of b.gap) b.rows stations
    → ((xs : List Named) → map shown_report xs ≡ reports → ReportsNamed (millis_of b.gap) b.rows xs)
    → ReportsMessages (millis_of b.gap) b.rows messages
    → IsShown b (flat_map station_lines stations
    ++ (flat_map thing_line reports ++ flat_map message_line messages))
is_shown b stations reports messages s n m = record {
  stations = stations;
  named = map listed reports;
  messages = messages;
  are_stations = s;
  are_named = n (map listed reports) (all_shown reports);
  are_messages = m;
  text_is = ap (λ l. flat_map station_lines stations ++ (l ++ flat_map message_line messages))
      (named_lines reports);
}
