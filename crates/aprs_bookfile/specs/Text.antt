-- The one text of a book's rows in each version, and the text that a book is written as.
use Rattle.std.specs.Prelude.{ℕ, ◌<◌, ◌≤◌, List, [], ◌∷◌, ◌++◌, length, map, codes, decimal, All}
use Rattle.std.specs.List.{join_with_byte}
use Rattle.hex.specs.Hex.{encode_lower, IsBytes}
use Rattle.aprs_io.specs.Octet.{octet}
use Rattle.aprs_ax25.specs.UiFrame.{IsUiFrame}
use Rattle.aprs_log.specs.LogText.{text_of_lines}
use Rattle.aprs_log.specs.Moment.{IsWritable, moment_text_in}
use Rattle.aprs_log.specs.declared.moment_form.MomentForm.{MomentForm}
use Rattle.aprs_log.specs.Receiver.{IsName}
use Rattle.aprs_log.specs.Reception.{Received}
use Rattle.aprs_transmissions.specs.Book.{BookOf}
use Rattle.aprs_transmissions.specs.BookValue.{BookValue}
use Rattle.aprs_transmissions.specs.Gap.{millis_of}
use Rattle.aprs_transmissions.specs.Row.{Row, last_moment}
use Rattle.aprs_bookfile.specs.Version.{form_of, gap_of, header_of, IsVersion}
use Rattle.aprs_bookfile.specs.declared.version.Version.{Version}
use Rattle.aprs_bookfile.specs.declared.version.Version.TheVariants.{Three}

-- ---- lines, without the LF that ends each

-- The fields of a row's line: T, the first and the last moment, the receivers with a comma between,
-- and the greatest reception's receiver, and its frame in lower case hexadecimal.
abbrev pub fields_of : MomentForm → Row → List (List ℕ)
fields_of form x = codes "T" ∷ moment_text_in form x.first ∷ moment_text_in form (last_moment x)
    ∷ join_with_byte (octet ",") x.receivers
    ∷ x.greatest.receiver ∷ encode_lower x.greatest.frame ∷ []

-- The line of a row, without its LF: its fields with a space between.
abbrev pub row_line : MomentForm → Row → List ℕ
row_line form x = join_with_byte (octet " ") (fields_of form x)

-- The last line of a text, without its LF: END, a space, and how many rows there are.
abbrev pub end_line : ℕ → List ℕ
end_line n = codes "END " ++ decimal n

-- The lines of a text: the header, one for each row, and the last.
abbrev pub lines_of : Version → List Row → List (List ℕ)
lines_of v rows = header_of v ∷ map (row_line (form_of v)) rows ++ end_line (length rows) ∷ []

-- ---- the text

-- The text of these rows in this version.
abbrev pub book_text : Version → List Row → List ℕ
book_text v rows = text_of_lines (lines_of v rows)

-- The book of the rows of a text of this version.
abbrev pub book_of_version : Version → List Row → BookValue
book_of_version v rows = record { gap = gap_of v; rows = rows }

-- ---- the text that a book is written as

-- Version 3, with the gap of the book.
abbrev pub written_version : BookValue → Version
written_version book = Three book.gap

-- The text that a book is written as: that of its rows in version 3, with its gap.
abbrev pub written_text : BookValue → List ℕ
written_text book = book_text (written_version book) book.rows

-- ---- whose text it is

-- The most bytes of a frame in a book.
abbrev pub most_frame_bytes : ℕ
most_frame_bytes = 328

-- A line can spell the row in this form: the form can write its first and its last moment; it has
-- at least one receiver, and each is a receiver's name, that of its greatest reception too; and its
-- greatest reception's frame is 1 to 328 bytes.
pub record IsSpelled (form : MomentForm) (x : Row) : Type 0 where
  pub first : IsWritable form x.first
  pub last : IsWritable form (last_moment x)
  pub some : 0 < length x.receivers
  pub receivers : All IsName x.receivers
  pub receiver : IsName x.greatest.receiver
  pub bytes : IsBytes x.greatest.frame
  pub few : (0 < length x.greatest.frame) × (length x.greatest.frame ≤ most_frame_bytes)

-- A line can spell the row in this form, and its frame is a UI frame.
pub record IsBookRow (form : MomentForm) (x : Row) : Type 0 where
  pub spelled : IsSpelled form x
  pub frame : IsUiFrame x.greatest.frame

-- The version's gap is one that a book can have. The rows are the book of some receptions under
-- this gap. A line can spell each row in the version's form, and each row's frame is a UI frame.
pub record IsBookRows (v : Version) (rows : List Row) : Type 0 where
  pub version : IsVersion v
  pub book : (S : List Received) × BookOf (millis_of (gap_of v)) S rows
  pub each : All (IsBookRow (form_of v)) rows
