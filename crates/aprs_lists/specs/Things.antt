-- The table of the objects and items of a book.
use Rattle.std.specs.Prelude.{◌≡◌, ℕ, Bool, List, [], ◌∷◌, ◌++◌, Option, None, Some, codes}
use Rattle.std.specs.List.{flat_map}
use Rattle.aprs_ax25.specs.Callsign.{call_text}
use Rattle.aprs_io.specs.Shown.{shown_text}
use Rattle.aprs_log.specs.Moment.{moment_text}
use Rattle.aprs_log.specs.Reception.{Received}
use Rattle.aprs_report.specs.Reading.{Value, object, item}
use Rattle.aprs_report.specs.declared.place.Place.{Place}
use Rattle.aprs_report.specs.declared.stamp.Stamp.{Stamp}
use Rattle.aprs_report.specs.declared.symbol.Symbol.{Symbol}
use Rattle.aprs_report.specs.Object.{live_text}
use Rattle.aprs_transmissions.specs.BookValue.{BookValue}
use Rattle.aprs_transmissions.specs.Gap.{millis_of}
use Rattle.aprs_transmissions.specs.Key.{key_of}
use Rattle.aprs_summary.specs.Names.{ReportsNamed, Thing}
use Rattle.aprs_summary.specs.Reports.{report_of}
use Rattle.aprs_summary.specs.declared.lists.named.Named.{Named}
use Rattle.aprs_table.specs.Cells.{ambiguity_field, compressed_field, latitude_field, longitude_field, stamp_field, symbol_field}
use Rattle.aprs_lists.specs.Lines.{tabbed_line}

-- The names of the columns.
abbrev pub thing_columns : List (List ℕ)
thing_columns = codes "kind" ∷ codes "name" ∷ codes "state" ∷ codes "last" ∷ codes "receiver"
    ∷ codes "source" ∷ codes "stamp" ∷ codes "latitude" ∷ codes "longitude" ∷ codes "ambiguity"
    ∷ codes "compressed" ∷ codes "symbol" ∷ codes "text" ∷ []

-- Where a report places something, and its text. The fields are time stamp, degrees north and east,
-- how many digits are left out, whether the place is compressed, symbol and comment.
abbrev pub placed_fields : Option Stamp → Place → Symbol → List ℕ → List (List ℕ)
placed_fields stamp place symbol text = stamp_field stamp ∷ latitude_field (Some place)
    ∷ longitude_field (Some place) ∷ ambiguity_field (Some place) ∷ compressed_field (Some place)
    ∷ symbol_field (Some symbol) ∷ shown_text text ∷ []

-- The name of an object or an item, whether it is live, when, by whom and from whom it was heard.
abbrev pub named_fields : List ℕ → Bool → Received → List (List ℕ)
named_fields name live x = shown_text name ∷ live_text live ∷ moment_text x.moment
    ∷ x.receiver ∷ call_text (key_of x.frame).source ∷ []

-- The line of a reception that reports an object or an item. There is none of other reports.
abbrev pub thing_line_in : Received → Value → List ℕ
thing_line_in x (object name live stamp place symbol comment) = tabbed_line (codes "object"
    ∷ named_fields name live x ++ placed_fields (Some stamp) place symbol comment)
thing_line_in x (item name live place symbol comment) = tabbed_line (codes "item"
    ∷ named_fields name live x ++ placed_fields None place symbol comment)
thing_line_in x v = []

-- The line of what was heard of an object or an item; nothing for any other report.
abbrev pub heard_thing_line : Received → List ℕ
heard_thing_line x = thing_line_in x (report_of (key_of x.frame))

-- The line of an object or an item, given with its last reception.
abbrev pub report_table_line : Thing × Received → List ℕ
report_table_line x = heard_thing_line x.1

-- The line of an object or an item that is listed.
abbrev pub thing_table_line : Named → List ℕ
thing_table_line x = heard_thing_line x.heard

-- The names of the columns, and one line for each object and item, in their order.
abbrev pub things_table : List Named → List ℕ
things_table things = tabbed_line thing_columns ++ flat_map thing_table_line things

-- The text is the table of the objects and items of the book's rows, whichever receptions these
-- come from.
pub record IsThingsTable (book : BookValue) (text : List ℕ) : Type 0 where
  pub things : List Named
  pub are_things : ReportsNamed (millis_of book.gap) book.rows things
  pub text_is : text ≡ things_table things
