-- The inputs of a fold, each of which is read a row at a time. No public clause cites this module.
use Rattle.std.specs.Prelude.{◌≡◌, ◌≢◌, ℕ, ◌≤◌, ◌+◌, ◌⊎◌, zero, suc, if◌then◌else◌, false, List, [], ◌∷◌, ◌++◌, length, Option, None, Some}
use Rattle.std.specs.List.{flat_map, last_or}
use Rattle.aprs_io.specs.declared.device.Counted.{Counted}
use Rattle.aprs_transmissions.specs.Order.{IsUpTo}
use Rattle.aprs_transmissions.specs.Row.{Row, row_cmp}
use Rattle.aprs_bookfile.specs.RowReader.{list_of_row, most_stream}
use Rattle.aprs_bookfile.specs.RowStream.{front_of, gap_of_stream, GetsOne, is_ended, stream_ahead, stream_size, taken_of}
use Rattle.aprs_bookfile.specs.declared.row_reader.Keeping.TheVariants.{Last}
use Rattle.aprs_bookfile.specs.declared.row_stream.RowStream.{RowStream}
use Rattle.aprs_fold.specs.Fronts.{row_at}
use Rattle.aprs_fold.specs.declared.fault.FoldFault.{FoldFault}
use Rattle.aprs_fold.specs.declared.fault.FoldFault.TheVariants.{Write}

-- Of an input that was `first` these rows were taken, and the next is in front; or they are all,
-- and the input has ended. The stream lends the one that was taken last.
pub record IsReading {R A : Type 0} (remaining : R → Option (List ℕ)) (limit gap : ℕ)
    (first now : Counted R) (stream : RowStream A) (taken : List Row) : Type 0 where
  pub gap_is : gap_of_stream stream ≡ gap
  pub size : stream_size stream ≤ most_stream
  pub gets : GetsOne remaining limit [] first now stream taken
  pub keeps : stream.reader.keeping ≡ Last
  pub lends : taken_of stream ≡ list_of_row (last_or None taken)

-- Each input is read as `IsReading` says: these rows were taken of it, and the next is in front.
abbrev pub AreReading : {R A : Type 0} → (R → Option (List ℕ)) → ℕ → ℕ → List (Counted R)
    → List (Counted R) → List (RowStream A) → List (List Row) → Type 0
AreReading remaining limit gap [] [] [] [] = Unit {0}
AreReading remaining limit gap (f ∷ first) (n ∷ now) (s ∷ streams) (t ∷ taken) =
    IsReading remaining limit gap f n s t × AreReading remaining limit gap first now streams taken
AreReading remaining limit gap first now streams taken = ⊥

-- The first inputs have streams of this gap, of which no row was taken, and the others weren't
-- asked.
abbrev pub AreOpened : {R A : Type 0} → (R → Option (List ℕ)) → ℕ → ℕ → List (Counted R)
    → List (Counted R) → List (RowStream A) → Type 0
AreOpened remaining limit gap first now [] = now ≡ first
AreOpened remaining limit gap (f ∷ first) (n ∷ now) (s ∷ streams) =
    IsReading remaining limit gap f n s [] × AreOpened remaining limit gap first now streams
AreOpened remaining limit gap first now streams = ⊥

-- The stream of this number may be read on: it hasn't ended, and isn't too large.
abbrev pub IsReadyAt : {A : Type 0} → List (RowStream A) → ℕ → Type 0
IsReadyAt [] index = ⊥
IsReadyAt (s ∷ streams) zero = (stream_size s ≤ most_stream) × (is_ended s ≡ false)
IsReadyAt (s ∷ streams) (suc index) = IsReadyAt streams index

-- The row in front of the stream of this number is taken too.
abbrev pub taken_at : {A : Type 0} → List (RowStream A) → ℕ → List (List Row) → List (List Row)
taken_at (s ∷ streams) zero (t ∷ taken) = (t ++ front_of s) ∷ taken
taken_at (s ∷ streams) (suc index) (t ∷ taken) = t ∷ taken_at streams index taken
taken_at streams index taken = taken

-- Another element may stand at this place, and nowhere else.
abbrev pub ChangesAt : {X : Type 0} → ℕ → List X → List X → Type 0
ChangesAt index [] [] = Unit {0}
ChangesAt zero (x ∷ old) (y ∷ new) = old ≡ new
ChangesAt (suc index) (x ∷ old) (y ∷ new) = (x ≡ y) × ChangesAt index old new
ChangesAt index old new = ⊥

-- A fault that is no refusal of the output.
abbrev pub IsOfInputs : FoldFault → Type 0
IsOfInputs Write = ⊥
IsOfInputs fault = Unit {0}

-- After the stream of this number was read on, each row in front was there before, or it doesn't
-- come before the one that was in front of this stream.
abbrev pub GoesOn : {A : Type 0} → ℕ → List (RowStream A) → List (RowStream A) → Type 0
GoesOn index old new = (k : ℕ) (x y : Row) → row_at old index ≡ Some x → row_at new k ≡ Some y
    → (row_at old k ≡ Some y) ⊎ IsUpTo row_cmp x y

-- After the stream of this number was read on, the others have the rows in front that they had.
abbrev pub OthersStay : {A : Type 0} → ℕ → List (RowStream A) → List (RowStream A) → Type 0
OthersStay index old new =
    (length new ≡ length old) × ((k : ℕ) → k ≢ index → row_at new k ≡ row_at old k)

-- What grows less with each row: nothing is ahead of a stream that has ended.
abbrev pub ahead_of : {A : Type 0} → RowStream A → ℕ
ahead_of stream = if is_ended stream then 0 else stream_ahead stream + 1

-- The sum of this over all streams.
abbrev pub ahead_of_all : {A : Type 0} → List (RowStream A) → ℕ
ahead_of_all [] = 0
ahead_of_all (s ∷ streams) = ahead_of s + ahead_of_all streams

-- The rows in front.
abbrev pub fronts_of : {A : Type 0} → List (RowStream A) → List Row
fronts_of = flat_map front_of
