-- What a reader holds of a book's text, and which rows it keeps.
use Rattle.std.specs.Prelude.{◌≡◌, ℕ, ◌+◌, if◌then◌else◌, Bool, true, false, List, [], ◌∷◌, ◌++◌, length, Option, None, Some, Result, Ok, Err}
use Rattle.std.specs.List.{last_or}
use Rattle.aprs_transmissions.specs.BookValue.{BookValue}
use Rattle.aprs_transmissions.specs.Row.{Row}
use Rattle.aprs_bookfile.specs.HeldLine.{IsHeldOf, IsLean}
use Rattle.aprs_bookfile.specs.Reader.{HasReadLines, is_done, is_first, JudgesLine}
use Rattle.aprs_bookfile.specs.ReadRows.{StopsAfter}
use Rattle.aprs_bookfile.specs.declared.fault.BookCause.{BookCause}
use Rattle.aprs_bookfile.specs.declared.fault.BookFault.{BookFault}
use Rattle.aprs_bookfile.specs.declared.stage.Stage.{Stage}
use Rattle.aprs_bookfile.specs.declared.stage.Stage.TheVariants.{Header, Rows, Done}
use Rattle.aprs_bookfile.specs.declared.row_reader.Keeping.{Keeping}
use Rattle.aprs_bookfile.specs.declared.row_reader.Keeping.TheVariants.{Each, Last}
use Rattle.aprs_bookfile.specs.declared.row_reader.RowReader.{RowReader}
use Rattle.aprs_bookfile.specs.declared.version.Version.{Version}

-- The list of a row, or the empty list where there is none.
abbrev pub list_of_row : Option Row → List Row
list_of_row None = []
list_of_row (Some x) = x ∷ []

-- What is kept of these rows: each, or the last alone.
abbrev pub rows_kept : Keeping → List Row → List Row
rows_kept Each rows = rows
rows_kept Last rows = list_of_row (last_or None rows)

-- What is kept after one row more.
abbrev pub kept_after : Keeping → List Row → Row → List Row
kept_after Each rows x = rows ++ x ∷ []
kept_after Last rows x = x ∷ []

-- The last of these rows, until the last line was read.
abbrev pub row_at_stage : Stage → List Row → List Row
row_at_stage Header rows = []
row_at_stage (Rows v) rows = list_of_row (last_or None rows)
row_at_stage (Done v) rows = []

-- Whether a line between these stages is a row's.
abbrev pub is_row_between : Stage → Stage → Bool
is_row_between (Rows v) (Rows w) = true
is_row_between before after = false

-- The version that the header says, once it was read.
abbrev pub version_in : Stage → Option Version
version_in Header = None
version_in (Rows v) = Some v
version_in (Done v) = Some v

-- A version that the header said stays.
abbrev pub KeepsVersion : Stage → Stage → Type 0
KeepsVersion old new = (v : Version) → version_in old ≡ Some v → version_in new ≡ Some v

-- How many rows there are after a line, by whether it is a row's.
abbrev pub count_after : Bool → ℕ → ℕ
count_after true count = count + 1
count_after false count = count

-- The answer of reading a book, by that of reading its whole text. At `Ok` it is the book of this
-- gap and these rows, and a fault stays.
abbrev pub answer_read : Result (Unit {0}) BookFault → ℕ → List Row → Result BookValue BookFault
answer_read (Ok u) gap rows = Ok (record { gap = gap; rows = rows })
answer_read (Err fault) gap rows = Err fault

-- After a line that was judged so, there are these rows, and what is to be kept of them is kept.
-- After a fault, where each is kept, each still is; else anything may be.
abbrev pub KeepsRows : Keeping → Result Stage BookCause → List Row → List Row → Type 0
KeepsRows keeping (Ok stage) rows kept = kept ≡ rows_kept keeping rows
KeepsRows keeping (Err cause) rows kept = keeping ≡ Each → kept ≡ rows

-- A line after those of the rows `old` is judged so; there are `new` rows after it, and these are
-- kept of them.
pub record JudgesKept (keeping : Keeping) (stage : Stage) (answer : Result Stage BookCause)
    (old : List Row) (line : List ℕ) (kept : List Row) : Type 0 where
  pub new : List Row
  pub judged : JudgesLine stage answer old line new
  pub keeps : KeepsRows keeping answer new kept

-- ---- a reader

-- The most bytes that a text may have whose rows are read one after another.
abbrev pub most_stream : ℕ
most_stream = 9223372036854775807

-- How many rows there were, and how many bytes of a line the reader holds, together.
abbrev pub size_read : {A : Type 0} → RowReader A → ℕ
size_read reader = reader.count + length reader.line

-- The row that is lent, or none.
abbrev pub row_lent : {A : Type 0} → RowReader A → List Row
row_lent reader = row_at_stage reader.stage reader.rows

-- The row that was lent before the one that is lent; once the last line was read, the last row.
abbrev pub row_taken : {A : Type 0} → RowReader A → List Row
row_taken reader =
    list_of_row (last_or None (if is_done reader.stage then reader.rows else reader.taken))

-- After one line more: a row was read, and `taken` has the rows that were kept before it; or none
-- was read, and the same rows are kept.
abbrev pub MovesOn : Bool → Stage → List Row → List Row → List Row → Type 0
MovesOn true stage old rows taken = (is_done stage ≡ false) × (taken ≡ old)
MovesOn false stage old rows taken = rows ≡ old

-- The reader has read this text, which has these rows, whatever it keeps of them. `line` is the
-- beginning of the next line.
pub record HasReadText {A : Type 0} (reader : RowReader A) (rows : List Row) (text : List ℕ)
    : Type 0 where
  pub line : List ℕ
  pub lines : HasReadLines reader.stage rows line text
  pub count : reader.count ≡ length rows

-- The reader has read this text, and keeps of its rows those that it is to keep. It holds of the
-- next line's beginning, `line`, no more than decides what that line is.
pub record HasReadTo {A : Type 0} (reader : RowReader A) (rows : List Row) (text : List ℕ)
    : Type 0 where
  pub line : List ℕ
  pub lines : HasReadLines reader.stage rows line text
  pub held : IsHeldOf (is_first reader.stage) reader.line line
  pub lean : IsLean (is_first reader.stage) reader.line
  pub count : reader.count ≡ length rows
  pub kept : reader.rows ≡ rows_kept reader.keeping rows

-- With one line more the reader has read this text: one row more, which it lends, or the same rows.
abbrev pub ReadsOne : {A : Type 0} → Bool → RowReader A → List Row → List ℕ → Type 0
ReadsOne true reader rows text =
    (x : Row) × (row_lent reader ≡ x ∷ []) × (is_done reader.stage ≡ false)
    × HasReadTo reader (rows ++ x ∷ []) text
ReadsOne false reader rows text = HasReadTo reader rows text

-- Where each row is kept and an allocation failed, as many rows are kept as rows' lines stand
-- before the line that the fault names.
abbrev pub StopsHere : {A : Type 0} → BookFault → RowReader A → Type 0
StopsHere fault reader = reader.keeping ≡ Each → StopsAfter fault reader.rows
