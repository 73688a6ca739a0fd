-- The text of the listing, as a function of what is listed of a book: its stations, its objects and
-- items, and its messages.
use Rattle.std.specs.Prelude.{◌≡◌, ℕ, Bool, List, [], ◌∷◌, ◌++◌, Option, None, Some, codes}
use Rattle.std.specs.List.{flat_map}
use Rattle.std.specs.Fmt.{decimal}
use Rattle.std.specs.Option.{option_map}
use Rattle.aprs_ax25.specs.Callsign.{call_text}
use Rattle.aprs_report.specs.Reading.{Value, position, object, item, message, ack, rej, status, raw}
use Rattle.aprs_report.specs.Object.{live_text}
use Rattle.aprs_log.specs.Moment.{moment_text}
use Rattle.aprs_log.specs.Reception.{Received}
use Rattle.aprs_transmissions.specs.Key.{key_of}
use Rattle.aprs_summary.specs.Reports.{report_of}
use Rattle.aprs_summary.specs.declared.lists.message.MessageRow.{MessageRow}
use Rattle.aprs_transmissions.specs.BookValue.{BookValue}
use Rattle.aprs_transmissions.specs.Gap.{millis_of}
use Rattle.aprs_summary.specs.Messages.{ReportsMessages, state_text}
use Rattle.aprs_summary.specs.Names.{ReportsNamed, Thing}
use Rattle.aprs_summary.specs.Stations.{ReportsStations}
use Rattle.aprs_summary.specs.declared.lists.named.Named.{Named}
use Rattle.aprs_summary.specs.declared.lists.station.Station.{Station}
use Rattle.aprs_table.specs.SpacedLine.{id_word, line_with_text, place_fields, spaced_line, stamp_text, word}

-- ---- fields

-- The fields that say when and by whom a reception was heard.
abbrev pub heard_fields : Received → List (List ℕ)
heard_fields x = moment_text x.moment ∷ x.receiver ∷ []

-- The fields of an object or an item: its name, whether it is live, when and by whom it was heard,
-- and from whom.
abbrev pub name_fields : List ℕ → Bool → Received → List (List ℕ)
name_fields name live x =
    word name ∷ live_text live ∷ heard_fields x ++ call_text (key_of x.frame).source ∷ []

-- ---- lines

-- The line of a reception, by what it reports: a position, a status, an object or an item. There is
-- none for other reports.
abbrev pub report_line : Received → Value → List ℕ
report_line x (position messaging stamp place symbol comment) =
    line_with_text (codes "position") (heard_fields x ++ place_fields stamp place symbol) comment
report_line x (status stamp text) =
    line_with_text (codes "status") (heard_fields x ++ stamp_text stamp ∷ []) text
report_line x (object name live stamp place symbol comment) =
    line_with_text (codes "object")
    (name_fields name live x ++ place_fields (Some stamp) place symbol) comment
report_line x (item name live place symbol comment) =
    line_with_text (codes "item") (name_fields name live x ++ place_fields None place symbol)
    comment
report_line x (message addressee text id) = []
report_line x (ack addressee id) = []
report_line x (rej addressee id) = []
report_line x raw = []

-- The line of a reception, by what its frame reports; nothing where `report_line` has none.
abbrev pub heard_line : Received → List ℕ
heard_line x = report_line x (report_of (key_of x.frame))

-- The line of what is last known, or nothing where nothing is known.
abbrev pub known_line : Option Received → List ℕ
known_line None = []
known_line (Some x) = heard_line x

-- The line of a station: its callsign and the number of its transmissions.
abbrev pub station_line : Station → List ℕ
station_line x = spaced_line (codes "station") (call_text x.call ∷ decimal x.transmissions ∷ [])

-- The lines of a station: its own, and those of its last known position and status.
abbrev pub station_lines : Station → List ℕ
station_lines x = station_line x ++ (known_line x.position ++ known_line x.status)

-- The line of an object or an item, with its last report.
abbrev pub thing_line : Thing × Received → List ℕ
thing_line x = heard_line x.1

-- The line of an object or an item.
abbrev pub named_line : Named → List ℕ
named_line x = heard_line x.heard

-- The fields of a message: from whom, to whom, its id, what came of it, and its first and its last
-- moment.
abbrev pub message_fields : MessageRow → List (List ℕ)
message_fields x = call_text x.source ∷ word x.addressee.now
    ∷ id_word (option_map (λ id. id.now) x.id) ∷ state_text x.state
    ∷ moment_text x.first ∷ moment_text x.last ∷ []

-- The line of a message.
abbrev pub message_line : MessageRow → List ℕ
message_line x = line_with_text (codes "message") (message_fields x) x.text.now

-- ---- the text

-- All stations, then all objects and items, then all messages.
abbrev pub show_text : List Station → List Named → List MessageRow → List ℕ
show_text stations named messages =
    flat_map station_lines stations
    ++ (flat_map named_line named ++ flat_map message_line messages)

-- The text is that of what the book's rows report, whatever set they are the book of.
pub record IsShown (book : BookValue) (text : List ℕ) : Type 0 where
  pub stations : List Station
  pub named : List Named
  pub messages : List MessageRow
  pub are_stations : ReportsStations (millis_of book.gap) book.rows stations
  pub are_named : ReportsNamed (millis_of book.gap) book.rows named
  pub are_messages : ReportsMessages (millis_of book.gap) book.rows messages
  pub text_is : text ≡ show_text stations named messages
