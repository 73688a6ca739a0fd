-- The row that was taken last of several streams. No public clause cites this module.
use Rattle.std.specs.Prelude.{◌≡◌, ℕ, zero, suc, List, [], ◌∷◌, Option, None, Some}
use Rattle.aprs_transmissions.specs.Row.{Row}
use Rattle.aprs_bookfile.specs.RowStream.{taken_of}
use Rattle.aprs_bookfile.specs.declared.row_stream.RowStream.{RowStream}
use Rattle.aprs_fold.specs.declared.last_row.LastRow.{LastRow}

-- The row that was taken last of the stream of this number, or none.
abbrev pub row_taken_at : {A : Type 0} → List (RowStream A) → ℕ → List Row
row_taken_at [] k = []
row_taken_at (s ∷ streams) zero = taken_of s
row_taken_at (s ∷ streams) (suc k) = row_taken_at streams k

-- The row that the stream of this number lends, or the joined one where no stream does.
abbrev pub lent_or : {A : Type 0} → Option ℕ → List Row → List (RowStream A) → List Row
lent_or None joined streams = joined
lent_or (Some k) joined streams = row_taken_at streams k

-- The row that was taken last, or none.
abbrev pub last_row : {A : Type 0} → LastRow A → List (RowStream A) → List Row
last_row last streams = lent_or last.stream last.joined streams

-- Where x is taken, it is a part of the joined row, or a stream is to lend it.
abbrev pub taken_or : Option ℕ → List Row → Row → List Row
taken_or None joined x = joined
taken_or (Some k) joined x = x ∷ []

-- The row that was taken last, once x was taken and its stream is read on.
abbrev pub last_row_after : {A : Type 0} → LastRow A → Row → List Row
last_row_after last x = taken_or last.stream last.joined x

-- If a stream lends the row, it is that of this number.
abbrev pub IsOfStream : ℕ → Option ℕ → Type 0
IsOfStream index stream = (k : ℕ) → stream ≡ Some k → k ≡ index
