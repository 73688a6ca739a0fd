-- A table of a set, which depends on the set of all receptions alone.
use Rattle.std.specs.Prelude.{◌≡◌, ℕ, List, None, Some}
use Rattle.aprs_log.specs.Reception.{Received}
use Rattle.aprs_transmissions.specs.Book.{BookOf}
use Rattle.aprs_transmissions.specs.Gap.{millis_of}
use Rattle.aprs_transmissions.specs.Lists.{SameMembers}
use Rattle.aprs_transmissions.specs.Row.{Row}
use Rattle.aprs_arguments.specs.declared.jobs.Table.{Table}
use Rattle.aprs_arguments.specs.declared.jobs.Table.TheVariants as table
use Rattle.aprs_table.specs.Table.{table_text}
use Rattle.aprs_summary.specs.Messages.{AreMessages}
use Rattle.aprs_summary.specs.Names.{AreNamed}
use Rattle.aprs_summary.specs.Stations.{AreStations}
use Rattle.aprs_summary.specs.declared.lists.message.MessageRow.{MessageRow}
use Rattle.aprs_summary.specs.declared.lists.named.Named.{Named}
use Rattle.aprs_summary.specs.declared.lists.station.Station.{Station}
use Rattle.aprs_lists.specs.Messages.{messages_table}
use Rattle.aprs_lists.specs.Net.{AreNetMessages}
use Rattle.aprs_lists.specs.Stations.{stations_table}
use Rattle.aprs_lists.specs.Things.{things_table}
use Rattle.aprs_lists.specs.Told.{Told, told_table}

-- The text is the table of the rows of the book of S under this gap, in seconds.
pub record IsRowsTableOf (gap : ℕ) (S : List Received) (text : List ℕ) : Type 0 where
  pub rows : List Row
  pub book : BookOf (millis_of gap) S rows
  pub text_is : text ≡ table_text rows

-- The text is the table of the messages of S, as the listing has them.
pub record IsMessagesTableOf (S : List Received) (text : List ℕ) : Type 0 where
  pub messages : List MessageRow
  pub are_messages : AreMessages S messages
  pub text_is : text ≡ messages_table messages

-- The text is the table of the messages of a net in S, under these gaps in seconds: that of the
-- book of S, and the message gap.
pub record IsNetTableOf (gap message_gap : ℕ) (S : List Received) (text : List ℕ) : Type 0 where
  pub rows : List Row
  pub told : List Told
  pub book : BookOf (millis_of gap) S rows
  pub are_messages : AreNetMessages (millis_of gap) (millis_of message_gap) rows told
  pub text_is : text ≡ told_table told

-- The text is the table of the stations of S, whose book has a gap of so many seconds.
pub record IsStationsTableOf (gap : ℕ) (S : List Received) (text : List ℕ) : Type 0 where
  pub rows : List Row
  pub stations : List Station
  pub book : BookOf (millis_of gap) S rows
  pub are_stations : AreStations S rows stations
  pub text_is : text ≡ stations_table rows stations

-- The text is the table of the objects and items of S.
pub record IsThingsTableOf (S : List Received) (text : List ℕ) : Type 0 where
  pub things : List Named
  pub are_things : AreNamed S things
  pub text_is : text ≡ things_table things

-- The text is this table of S, whose book has a gap of so many seconds.
abbrev pub IsTableOf : Table → ℕ → List Received → List ℕ → Type 0
IsTableOf table.Rows gap = IsRowsTableOf gap
IsTableOf (table.Messages None) gap = IsMessagesTableOf
IsTableOf (table.Messages (Some message_gap)) gap = IsNetTableOf gap message_gap
IsTableOf table.Stations gap = IsStationsTableOf gap
IsTableOf table.Things gap = IsThingsTableOf

-- Sets with the same members have one text of this table under this gap.
abbrev pub HaveOneTable : Table → ℕ → Type 0
HaveOneTable t gap = (S T : List Received) (text other : List ℕ) → SameMembers S T
    → IsTableOf t gap S text → IsTableOf t gap T other → text ≡ other
