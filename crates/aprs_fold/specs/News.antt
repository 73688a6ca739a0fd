-- What of a fold of book files is new to the first of them.
use Rattle.std.specs.Prelude.{ℕ, List, [], ◌∷◌, Option}
use Rattle.aprs_io.specs.declared.device.Counted.{Counted}
use Rattle.aprs_io.specs.declared.outlet.Outlet.{Outlet}
use Rattle.aprs_transmissions.specs.BookValue.{BookValue}
use Rattle.aprs_transmissions.specs.Row.{Row}
use Rattle.aprs_fold.specs.NewRows.{new_rows}
use Rattle.aprs_fold.specs.Fold.{IsPart, IsWhole, PutsPart, PutsTextPart}
use Rattle.aprs_fold.specs.Range.{book_of_sources}
use Rattle.aprs_fold.specs.declared.fault.FoldFault.{FoldFault}
use Rattle.aprs_fold.specs.declared.range.SourceRange.{SourceRange}

-- The rows of the first of several books.
abbrev pub first_of : List (List Row) → List Row
first_of [] = []
first_of (rows ∷ others) = rows

-- Of the book of all these rows those whose sources are within the range and that are new to the
-- first of the books.
abbrev pub news_of_sources : SourceRange → ℕ → List (List Row) → BookValue
news_of_sources range gap rows = record {
  gap = gap;
  rows = new_rows (first_of rows) (book_of_sources range gap rows).rows;
}

-- A part of the text of a book of some rows went out, as `IsPart` says it.
abbrev pub LeavesPart : {W : Type 0} → (W → Option (List ℕ)) → ℕ → FoldFault → Counted W
    → Counted W → Type 0
LeavesPart contents gap fault old new = (rows : List Row) × (last : List Row) × IsWhole gap rows
    × IsPart contents gap fault rows last old new

-- ---- the same of what was put

-- The lines of rows that are a book's were put; at `Write` a prefix of them and of the last row's
-- line went out.
abbrev pub LeavesNews : {W : Type 0} → (W → Option (List ℕ)) → ℕ → FoldFault → Outlet W
    → Outlet W → Type 0
LeavesNews contents gap fault old new = (rows : List Row) × (last : List Row) × IsWhole gap rows
    × PutsPart contents fault rows last old new

-- The header and the lines of rows that are a book's were put; at `Write` a prefix of these and of
-- the last row's line went out.
abbrev pub LeavesNewsText : {W : Type 0} → (W → Option (List ℕ)) → ℕ → FoldFault → Outlet W
    → Outlet W → Type 0
LeavesNewsText contents gap fault old new = (rows : List Row) × (last : List Row)
    × IsWhole gap rows × PutsTextPart contents gap fault rows last old new
