-- The history of rows has one line for each.
use Rattle.std.specs.Prelude.{◌≡◌, ℕ, List, length, All}
use Rattle.aprs_log.specs.LogText.{HasNoLf, text_of_lines}
use Rattle.aprs_transmissions.specs.Row.{Row}
use Rattle.aprs_rows.specs.Told.{HasNamesAndFrame}
use Rattle.aprs_table.specs.History.{history_text}

-- The history is the text of as many lines as rows, in none of which an LF stands.
abbrev pub HasOneLineEach : List Row → Type 0
HasOneLineEach rows = (lines : List (List ℕ)) × (length lines ≡ length rows) × All HasNoLf lines
    × (history_text rows ≡ text_of_lines lines)

-- The history of rows whose receivers have names and whose frames are UI frames has one line for
-- each.
abbrev pub HistoriesHaveOneLineEach : Type 0
HistoriesHaveOneLineEach = (rows : List Row) → All HasNamesAndFrame rows → HasOneLineEach rows
