-- What is lent of the text of a book.
use Rattle.std.specs.Prelude.{◌≡◌, ℕ, ◌+◌, ◌-◌, Bool, false, true, List, [], ◌∷◌, ◌++◌, take, drop, Option, Some, count_by}
use Rattle.std.specs.Option.{option_map}
use Rattle.aprs_io.specs.Cut.{is_byte}
use Rattle.aprs_transmissions.specs.Row.{Row}
use Rattle.aprs_bookfile.specs.RowLines.{ended_by_lf}
use Rattle.aprs_bookfile.specs.Text.{IsBookRows, book_text, end_line}
use Rattle.aprs_bookfile.specs.declared.version.Version.{Version}
use Rattle.aprs_fold.specs.Range.{rows_of_sources}
use Rattle.aprs_fold.specs.declared.range.SourceRange.{SourceRange}
use Rattle.aprs_fold.specs.declared.range.book_range.BookRange.{BookRange}

-- The bytes end with the last line of a book's text, and an LF stands before it.
abbrev pub EndsWithLast : List ℕ → Type 0
EndsWithLast bytes =
    (before : List ℕ) × (n : ℕ) × (bytes ≡ before ++ 10 ∷ ended_by_lf (end_line n))

-- These lines, and after them a last line. The number in it is `rows` and the number of these lines
-- together.
abbrev pub with_last : ℕ → List ℕ → List ℕ
with_last rows lines = lines ++ ended_by_lf (end_line (rows + count_by (is_byte 10) lines))

-- What follows the line in hand: nothing, if it is the last line. Otherwise these follow: the lines
-- from one place of the bytes up to another, and a last line.
abbrev pub after_line : Bool → ℕ → ℕ → ℕ → List ℕ → List ℕ
after_line true rows at end bytes = []
after_line false rows at end bytes = with_last rows (take (end - at) (drop at bytes))

-- What is yet to be lent of these bytes.
abbrev pub left_of : {R : Type 0} → BookRange R → List ℕ → List ℕ
left_of range bytes = drop range.given range.line.items
    ++ after_line range.is_last range.rows range.at range.end bytes

-- What the bytes are lent from.
abbrev pub lent_from : {R : Type 0} → BookRange R → R
lent_from range = range.source

-- What is yet to be lent, where the source's bytes are known.
abbrev pub lent : {R : Type 0} → (R → Option (List ℕ)) → BookRange R → Option (List ℕ)
lent bytes range = option_map (left_of range) (bytes range.source)

-- Where the source's bytes are the text of a book, what is lent is the text of those of its rows
-- whose sources are within the range.
abbrev pub LendsRange : SourceRange → Option (List ℕ) → Option (List ℕ) → Type 0
LendsRange range known lent = (v : Version) (rows : List Row) → IsBookRows v rows
    → known ≡ Some (book_text v rows) → lent ≡ Some (book_text v (rows_of_sources range rows))
