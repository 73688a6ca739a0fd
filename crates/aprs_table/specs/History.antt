-- The history of a book: a line for each row, which says what the row's frame reports.
use Rattle.std.specs.Prelude.{ℕ, List, [], ◌∷◌, ◌++◌, drop, map, Option, None, Some, codes}
use Rattle.std.specs.Fmt.{decimal}
use Rattle.std.specs.List.{flat_map, join_with_byte}
use Rattle.aprs_ax25.specs.Callsign.{call_text}
use Rattle.aprs_ax25.specs.Frame.{Parts}
use Rattle.aprs_ax25.specs.FrameFault.{parts_of}
use Rattle.aprs_ax25.specs.Hop.{hop_of, hop_text}
use Rattle.aprs_ax25.specs.declared.hop.Hop.{Hop}
use Rattle.aprs_report.specs.Reading.{Value, position, object, item, message, ack, rej, status, raw}
use Rattle.aprs_report.specs.Reader.{reading_of}
use Rattle.aprs_mice.specs.MicE.{MicEValue}
use Rattle.aprs_mice.specs.MicEMessage.{message_name}
use Rattle.aprs_mice.specs.Reader.{mic_e_or_none}
use Rattle.aprs_log.specs.Moment.{moment_text}
use Rattle.aprs_transmissions.specs.Row.{Row, last_moment}
use Rattle.aprs_table.specs.SpacedLine.{id_word, line_with_text, place_fields, spaced_line, stamp_text, word}
use Rattle.aprs_report.specs.Object.{live_text}

-- The byte between two receivers.
abbrev pub comma : ℕ
comma = 44

-- ---- fields

-- The digipeaters as a monitor prints them, without the comma before the first, or - where there
-- are none.
abbrev pub via_text : List Hop → List ℕ
via_text [] = codes "-"
via_text (hop ∷ more) = drop 1 (flat_map hop_text (hop ∷ more))

-- The fields of a row: its first and its last moment, and its receivers with a comma between. Then
-- who sent its greatest reception's frame, and that frame's digipeaters, used or not.
abbrev pub row_fields : Row → List (List ℕ)
row_fields x = moment_text x.first ∷ moment_text (last_moment x) ∷ join_with_byte comma x.receivers
    ∷ call_text (parts_of x.greatest.frame).source.call
    ∷ via_text (map hop_of (parts_of x.greatest.frame).digipeaters) ∷ []

-- ---- lines

-- The line of a frame of these parts that has no report: its kind, the `told` fields, and what its
-- Mic-E position says, if it is one, or else its destination and its information.
abbrev pub other_line : List (List ℕ) → Parts → Option MicEValue → List ℕ
other_line told p (Some x) = line_with_text (codes "mic-e")
    (told ++ decimal x.course ∷ decimal x.speed ∷ message_name x.message
    ∷ place_fields None x.place x.symbol) x.comment
other_line told p None =
    line_with_text (codes "raw") (told ++ call_text p.destination.call ∷ []) p.info

-- The line of a frame of these parts by what it reports: its kind, the `told` fields, and those of
-- the report.
abbrev pub told_line : List (List ℕ) → Parts → Value → List ℕ
told_line told p (position messaging stamp place symbol comment) =
    line_with_text (codes "position") (told ++ place_fields stamp place symbol) comment
told_line told p (object name live stamp place symbol comment) =
    line_with_text (codes "object")
    (told ++ word name ∷ live_text live ∷ place_fields (Some stamp) place symbol) comment
told_line told p (item name live place symbol comment) =
    line_with_text (codes "item")
    (told ++ word name ∷ live_text live ∷ place_fields None place symbol) comment
told_line told p (message addressee text id) =
    line_with_text (codes "message") (told ++ word addressee ∷ id_word id ∷ []) text
told_line told p (ack addressee id) = spaced_line (codes "ack") (told ++ word addressee ∷ id ∷ [])
told_line told p (rej addressee id) = spaced_line (codes "rej") (told ++ word addressee ∷ id ∷ [])
told_line told p (status stamp text) =
    line_with_text (codes "status") (told ++ stamp_text stamp ∷ []) text
told_line told p raw = other_line told p (mic_e_or_none p.destination.call.characters p.info)

-- The line of a row.
abbrev pub history_line : Row → List ℕ
history_line x = told_line (row_fields x) (parts_of x.greatest.frame)
    (reading_of (parts_of x.greatest.frame).info)

-- ---- the text

-- The lines of the rows, in their order.
abbrev pub history_text : List Row → List ℕ
history_text rows = flat_map history_line rows
