-- The line of an object or an item in a history. No public clause cites this module.
use Rattle.std.specs.Prelude.{ℕ, List, [], ◌∷◌, ◌++◌, Some, None, codes}
use Rattle.aprs_report.specs.Object.{live_text}
use Rattle.aprs_report.specs.Reading.{Value, object, item}
use Rattle.aprs_table.specs.SpacedLine.{line_with_text, place_fields, word}

-- The line that a history has of an object or an item: its kind, the `told` fields, and those of
-- the report. There is none of other reports.
abbrev pub told_named_line : List (List ℕ) → Value → List ℕ
told_named_line told (object name live stamp place symbol comment) =
    line_with_text (codes "object")
    (told ++ word name ∷ live_text live ∷ place_fields (Some stamp) place symbol) comment
told_named_line told (item name live place symbol comment) =
    line_with_text (codes "item")
    (told ++ word name ∷ live_text live ∷ place_fields None place symbol) comment
told_named_line told other = []
