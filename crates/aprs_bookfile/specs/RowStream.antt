-- How far the rows of a book's text were read of an input.
use Rattle.std.specs.Prelude.{◌≡◌, ℕ, ◌+◌, ◌*◌, ◌⊎◌, if◌then◌else◌, Bool, true, false, List, [], ◌∷◌, ◌++◌, length, Option, None, Ok, Err}
use Rattle.std.specs.List.{last_or}
use Rattle.aprs_io.specs.Device.{Calls, Going}
use Rattle.aprs_io.specs.declared.device.Counted.{Counted}
use Rattle.aprs_transmissions.specs.Row.{Row}
use Rattle.aprs_bookfile.specs.Piece.{bytes_left}
use Rattle.aprs_bookfile.specs.Reader.{gap_in, is_done}
use Rattle.aprs_bookfile.specs.Reading.{Got, IsAnswered}
use Rattle.aprs_bookfile.specs.RowReader.{list_of_row, row_lent, row_taken, size_read, HasReadText, HasReadTo, StopsHere}
use Rattle.aprs_bookfile.specs.declared.fault.BookFault.{BookFault}
use Rattle.aprs_bookfile.specs.declared.row_reader.Keeping.TheVariants.{Last}
use Rattle.aprs_bookfile.specs.declared.row_stream.RowStream.{RowStream}

-- How many rows there were, and how many bytes were read and not judged or may still be read,
-- together.
abbrev pub stream_size : {A : Type 0} → RowStream A → ℕ
stream_size stream = size_read stream.reader + length (bytes_left stream.piece) + stream.left

-- What grows less with each step.
abbrev pub stream_ahead : {A : Type 0} → RowStream A → ℕ
stream_ahead stream = stream.left * 2 + length (bytes_left stream.piece)
    + (if is_done stream.reader.stage then 0 else 1)

-- The row that is lent, or none.
abbrev pub front_of : {A : Type 0} → RowStream A → List Row
front_of stream = row_lent stream.reader

-- The row that was lent before the one that is lent; once the last line was read, the last row.
abbrev pub taken_of : {A : Type 0} → RowStream A → List Row
taken_of stream = row_taken stream.reader

-- Whether the last line was read; bytes may follow it.
abbrev pub is_ended : {A : Type 0} → RowStream A → Bool
is_ended stream = is_done stream.reader.stage

-- The gap that the header says; before that is read, the standard gap.
abbrev pub gap_of_stream : {A : Type 0} → RowStream A → ℕ
gap_of_stream stream = gap_in stream.reader.stage

-- This much was got: the text of these rows, and bytes that weren't looked at.
abbrev pub HoldsTo : {A : Type 0} → RowStream A → List Row → List ℕ → Type 0
HoldsTo stream rows got =
    (t : List ℕ) × (got ≡ t ++ bytes_left stream.piece) × HasReadTo stream.reader rows t

-- The text of these rows was got, and bytes that weren't looked at, whatever is kept of the rows.
abbrev pub HoldsText : {A : Type 0} → RowStream A → List Row → List ℕ → Type 0
HoldsText stream rows got =
    (t : List ℕ) × (got ≡ t ++ bytes_left stream.piece) × HasReadText stream.reader rows t

-- Since the input was `first`, the text of these rows was got, which begins with `head`, at most
-- `limit` bytes.
pub record HasGot {R A : Type 0} (remaining : R → Option (List ℕ)) (limit : ℕ) (head : List ℕ)
    (first now : Counted R) (stream : RowStream A) (rows : List Row) : Type 0 where
  pub got : Got (HoldsTo stream rows) head (remaining first.device) (remaining now.device) limit
      stream.left
  pub calls : Calls Going first now

-- Since the input was `first`, the text of these rows was got, which begins with `head`, at most
-- `limit` bytes, whatever is kept of the rows.
pub record HasGotText {R A : Type 0} (remaining : R → Option (List ℕ)) (limit : ℕ)
    (head : List ℕ) (first now : Counted R) (stream : RowStream A) (rows : List Row)
    : Type 0 where
  pub got : Got (HoldsText stream rows) head (remaining first.device) (remaining now.device) limit
      stream.left
  pub calls : Calls Going first now

-- After these rows one more was got; or they are all, and the input has ended.
abbrev pub GetsOne : {R A : Type 0} → (R → Option (List ℕ)) → ℕ → List ℕ → Counted R → Counted R
    → RowStream A → List Row → Type 0
GetsOne remaining limit head first now stream rows =
    ((x : Row) × (front_of stream ≡ x ∷ []) × (is_ended stream ≡ false)
    × HasGot remaining limit head first now stream (rows ++ x ∷ []))
    ⊎ ((front_of stream ≡ []) × (is_ended stream ≡ true)
    × IsAnswered remaining limit head (Ok (record { gap = gap_of_stream stream; rows = rows }))
    first now)

-- With one step more: a row more, or no row more.
abbrev pub StepsTo : {R A : Type 0} → (R → Option (List ℕ)) → Bool → ℕ → List ℕ → Counted R
    → Counted R → RowStream A → List Row → Type 0
StepsTo remaining true limit head first now stream rows =
    (x : Row) × (front_of stream ≡ x ∷ []) × (is_ended stream ≡ false)
    × HasGot remaining limit head first now stream (rows ++ x ∷ [])
StepsTo remaining false limit head first now stream rows =
    HasGot remaining limit head first now stream rows

-- Where the text of some rows was got since the input was `first`, this fault is the answer of
-- reading it since then.
abbrev pub IsFaultyAfter : {R A : Type 0} → (R → Option (List ℕ)) → BookFault → Counted R
    → Counted R → RowStream A → Type 0
IsFaultyAfter {R = R} remaining fault old new stream =
    (limit : ℕ) (head : List ℕ) (first : Counted R) (rows : List Row)
    → HasGot remaining limit head first old stream rows
    → IsAnswered remaining limit head (Err fault) first new

-- Where the text of some rows was got before, and the last alone is kept, the last of these rows is
-- the one that is taken.
abbrev pub TakesLast : {R A : Type 0} → (R → Option (List ℕ)) → Counted R → RowStream A
    → RowStream A → Type 0
TakesLast {R = R} remaining now old new =
    (limit : ℕ) (head : List ℕ) (first : Counted R) (rows : List Row) → old.reader.keeping ≡ Last
    → HasGot remaining limit head first now old rows
    → taken_of new ≡ list_of_row (last_or None rows)

-- The text of some rows was got before, and each row is kept. Then, if an allocation failed, the
-- fault names the line after those of the rows that are kept now.
abbrev pub StopsFrom : {R A : Type 0} → (R → Option (List ℕ)) → BookFault → Counted R
    → RowStream A → RowStream A → Type 0
StopsFrom {R = R} remaining fault now old new =
    (limit : ℕ) (head : List ℕ) (first : Counted R) (rows : List Row)
    → HasGot remaining limit head first now old rows → StopsHere fault new.reader
