-- What is written of a book: its listing, its history, or a table of it. No public clause cites
-- this module.
use Rattle.std.specs.Prelude.{◌≡◌, ℕ, List, Option, None, Some, Result, Ok, Err}
use Rattle.aprs_io.specs.Device.{Sends}
use Rattle.aprs_io.specs.declared.device.Counted.{Counted}
use Rattle.aprs_transmissions.specs.BookValue.{BookValue}
use Rattle.aprs_table.specs.History.{history_text}
use Rattle.aprs_table.specs.OneLine.{HasOneLineEach}
use Rattle.aprs_arguments.specs.declared.jobs.Table.{Table}
use Rattle.aprs_arguments.specs.declared.jobs.Table.TheVariants as table
use Rattle.aprs_table.specs.Table.{table_text}
use Rattle.aprs_lists.specs.Messages.{IsMessagesTable}
use Rattle.aprs_lists.specs.Net.{IsNetTable}
use Rattle.aprs_lists.specs.Stations.{IsStationsTable}
use Rattle.aprs_lists.specs.Things.{IsThingsTable}
use Rattle.aprs_runs.specs.declared.fault.RunFault.{RunFault}
use Rattle.aprs_runs.specs.declared.fault.RunFault.TheVariants as run
use Rattle.aprs_runs.specs.declared.gathered.OutputFault.{OutputFault}
use Rattle.aprs_runs.specs.declared.gathered.OutputFault.TheVariants.{Memory, Write}

-- The text is the history of the book's rows, with one line for each.
abbrev pub IsHistory : BookValue → List ℕ → Type 0
IsHistory book text = HasOneLineEach book.rows × (text ≡ history_text book.rows)

-- The text is this table of the book.
abbrev pub IsTable : Table → BookValue → List ℕ → Type 0
IsTable table.Rows book text = text ≡ table_text book.rows
IsTable (table.Messages None) book text = IsMessagesTable book text
IsTable (table.Messages (Some message_gap)) book text = IsNetTable message_gap book text
IsTable table.Stations book text = IsStationsTable book text
IsTable table.Things book text = IsThingsTable book text

-- A text that is told of the book is written, or a prefix of it where the output was refused. Where
-- an allocation failed, nothing is.
unfoldable pub WritesTold : {W : Type 0} → (BookValue → List ℕ → Type 0) → (W → Option (List ℕ))
    → Result (Unit {0}) OutputFault → BookValue → Counted W → Counted W → Type 0
WritesTold Told contents (Ok u) book old new = (text : List ℕ) × Told book text
    × Sends {E = OutputFault} contents (Ok u) old new text
WritesTold Told contents (Err Write) book old new = (text : List ℕ) × Told book text
    × Sends contents (Err Write) old new text
WritesTold Told contents (Err Memory) book old new = new ≡ old

-- What a run answers where its output was written so.
abbrev pub answer_of_output : Result (Unit {0}) OutputFault → Result (Unit {0}) RunFault
answer_of_output (Ok u) = Ok u
answer_of_output (Err Write) = Err run.Write
answer_of_output (Err Memory) = Err run.Memory
