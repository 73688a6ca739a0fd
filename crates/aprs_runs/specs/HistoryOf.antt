-- The history of a set, which depends on the set of all receptions alone.
use Rattle.std.specs.Prelude.{◌≡◌, ℕ, Bool, List, ◌∷◌, ◌++◌, Option, Some, codes}
use Rattle.aprs_ax25.specs.Callsign.{Call}
use Rattle.aprs_report.specs.declared.place.Place.{Place}
use Rattle.aprs_report.specs.declared.stamp.Stamp.{Stamp}
use Rattle.aprs_report.specs.declared.symbol.Symbol.{Symbol}
use Rattle.aprs_log.specs.Reception.{Received}
use Rattle.aprs_transmissions.specs.Best.{LastKnown}
use Rattle.aprs_transmissions.specs.BestLaws.{Passes}
use Rattle.aprs_transmissions.specs.Book.{BookOf}
use Rattle.aprs_transmissions.specs.Gap.{millis_of}
use Rattle.aprs_transmissions.specs.Lists.{SameMembers}
use Rattle.aprs_transmissions.specs.Row.{Row}
use Rattle.aprs_summary.specs.Reports.{reports_item, reports_object, reports_position}
use Rattle.aprs_table.specs.History.{history_line, history_text, row_fields}
use Rattle.aprs_table.specs.OneLine.{HasOneLineEach}
use Rattle.aprs_lists.specs.Listing.{heard_fields, known_line, name_fields}
use Rattle.aprs_table.specs.SpacedLine.{line_with_text, place_fields, word}
use Rattle.aprs_report.specs.Object.{live_text}

-- The text is the history of the book of S under this gap, in seconds, and has one line for each of
-- the book's rows.
pub record IsHistoryOf (gap : ℕ) (S : List Received) (text : List ℕ) : Type 0 where
  pub rows : List Row
  pub book : BookOf (millis_of gap) S rows
  pub text_is : text ≡ history_text rows
  pub lines : HasOneLineEach rows

-- Sets with the same members have one history under this gap.
abbrev pub HaveOneHistory : ℕ → Type 0
HaveOneHistory gap = (S T : List Received) (text other : List ℕ) → SameMembers S T
    → IsHistoryOf gap S text → IsHistoryOf gap T other → text ≡ other

-- ---- the places in it

-- The text has a line of a row whose greatest reception is x, and this line says of a place what
-- the listing's line of x says of it.
pub record TellsPlace (text : List ℕ) (x : Received) : Type 0 where
  pub before : List Row
  pub row : Row
  pub after : List Row
  pub is : row.greatest ≡ x
  pub text_is : text ≡ history_text before ++ (history_line row ++ history_text after)
  pub stamp : Option Stamp
  pub place : Place
  pub symbol : Symbol
  pub comment : List ℕ
  pub listed : known_line (Some x) ≡ line_with_text (codes "position")
      (heard_fields x ++ place_fields stamp place symbol) comment
  pub told : history_line row ≡ line_with_text (codes "position")
      (row_fields row ++ place_fields stamp place symbol) comment

-- The history of any set tells the place of its greatest reception of a position report from a
-- station, which is the one that the listing of the set shows.
abbrev pub HistoriesTellPlaces : ℕ → Type 0
HistoriesTellPlaces gap = (S : List Received) (text : List ℕ) (call : Call) (x : Received)
    → IsHistoryOf gap S text → LastKnown S (Passes (reports_position call)) (Some x)
    → TellsPlace text x

-- The text has a line of a row whose greatest reception is x. This line says of an object or an
-- item, whichever `kind` names, what the listing's line of x says of it.
pub record TellsNamed (kind text : List ℕ) (x : Received) : Type 0 where
  pub before : List Row
  pub row : Row
  pub after : List Row
  pub is : row.greatest ≡ x
  pub text_is : text ≡ history_text before ++ (history_line row ++ history_text after)
  pub name : List ℕ
  pub live : Bool
  pub stamp : Option Stamp
  pub place : Place
  pub symbol : Symbol
  pub comment : List ℕ
  pub listed : known_line (Some x) ≡ line_with_text kind
      (name_fields name live x ++ place_fields stamp place symbol) comment
  pub told : history_line row ≡ line_with_text kind
      (row_fields row ++ word name ∷ live_text live ∷ place_fields stamp place symbol) comment

-- The history of any set tells of each object the set's greatest report, which is the one that the
-- listing of the set shows.
abbrev pub HistoriesTellObjects : ℕ → Type 0
HistoriesTellObjects gap = (S : List Received) (text name : List ℕ) (x : Received)
    → IsHistoryOf gap S text → LastKnown S (Passes (reports_object name)) (Some x)
    → TellsNamed (codes "object") text x

-- The history of any set tells of each item the set's greatest report, which is the one that the
-- listing of the set shows.
abbrev pub HistoriesTellItems : ℕ → Type 0
HistoriesTellItems gap = (S : List Received) (text name : List ℕ) (x : Received)
    → IsHistoryOf gap S text → LastKnown S (Passes (reports_item name)) (Some x)
    → TellsNamed (codes "item") text x
