-- What a fold of book files writes.
use Rattle.std.specs.Prelude.{◌≡◌, ℕ, length, List, [], ◌++◌, Option, Ok, Err}
use Rattle.std.specs.List.{flat_map}
use Rattle.std.specs.Io.KnownBytes.{Appends}
use Rattle.aprs_io.specs.Device.{Calls, Going, Sends}
use Rattle.aprs_io.specs.Outlet.{held_of, Puts}
use Rattle.aprs_io.specs.declared.device.Counted.{Counted}
use Rattle.aprs_io.specs.declared.outlet.Outlet.{Outlet}
use Rattle.aprs_io.specs.declared.input.InputEnd.TheVariants as how
use Rattle.aprs_transmissions.specs.Row.{Row}
use Rattle.aprs_bookfile.specs.RowLines.{ended_by_lf, line_and_lf}
use Rattle.aprs_bookfile.specs.Text.{written_text, IsBookRows}
use Rattle.aprs_bookfile.specs.TextFault.{HasBookFault}
use Rattle.aprs_bookfile.specs.Version.{header_of}
use Rattle.aprs_bookfile.specs.declared.fault.BookCause.TheVariants as why
use Rattle.aprs_bookfile.specs.declared.version.Version.TheVariants.{Three}
use Rattle.aprs_fold.specs.Begun.{IsBegun}
use Rattle.aprs_fold.specs.Range.{rows_of_sources}
use Rattle.aprs_fold.specs.Taking.{lines_of_rows}
use Rattle.aprs_fold.specs.declared.fault.FoldFault.{FoldFault}
use Rattle.aprs_fold.specs.declared.fault.FoldFault.TheVariants.{Write}
use Rattle.aprs_fold.specs.declared.range.SourceRange.{SourceRange}

-- The rows are those of a book of this gap in version 3.
abbrev pub IsWhole : ℕ → List Row → Type 0
IsWhole gap rows = IsBookRows (Three gap) rows

-- The header of a book of this gap, with its LF.
abbrev pub header_text : ℕ → List ℕ
header_text gap = ended_by_lf (header_of (Three gap))

-- A text that no reader takes for a book's, since its last line isn't there.
abbrev pub LacksEnd : List ℕ → Type 0
LacksEnd text =
    (line : ℕ) × HasBookFault text how.End (record { line = line; cause = why.Ending })

-- A part of a book's text went out: the whole header and a part of the lines of these rows, which
-- lacks its end, and no call of the output answered a fault. At `Write` it is a prefix of the text
-- of these rows and the last, and the last call of the output answered a fault.
abbrev pub IsPart : {W : Type 0} → (W → Option (List ℕ)) → ℕ → FoldFault → List Row → List Row
    → Counted W → Counted W → Type 0
IsPart contents gap Write rows last old new = Sends {E = FoldFault} contents (Err Write) old new
    (written_text (record { gap = gap; rows = rows ++ last }))
IsPart contents gap fault rows last old new = (part : List ℕ) × (rest : List ℕ)
    × (flat_map line_and_lf rows ≡ part ++ rest)
    × Appends (contents old.device) (contents new.device) (header_text gap ++ part)
    × Calls Going old new
    × LacksEnd (header_text gap ++ part)

-- What was written before the fold ended early: a part of a book's text (`IsPart`), with those of
-- these rows whose sources are within the range. `IsBegun`: the rows that were taken are folded
-- into `rows`, which are final, and `last`, which may still be joined; or both are empty.
pub record IsLeft {R W : Type 0} (remaining : R → Option (List ℕ))
    (contents : W → Option (List ℕ)) (limit gap : ℕ) (range : SourceRange) (fault : FoldFault)
    (first now : List (Counted R)) (old new : Counted W) : Type 0 where
  pub rows : List Row
  pub last : List Row
  pub begun : IsBegun remaining limit gap first now rows last
  pub rows_are : IsWhole gap (rows_of_sources range rows)
  pub part : IsPart contents gap fault (rows_of_sources range rows) (rows_of_sources range last)
      old new

-- ---- the same of what was put

-- The rows are those of a book: of the rows that were folded, the last among them, those whose
-- sources are within the range. Without the last they are those of a book too.
pub record IsFoldedBook {R : Type 0} (remaining : R → Option (List ℕ)) (limit gap : ℕ)
    (range : SourceRange) (first now : List (Counted R)) (rows : List Row) : Type 0 where
  pub written : List Row
  pub last : List Row
  pub begun : IsBegun remaining limit gap first now written last
  pub before : IsWhole gap (rows_of_sources range written)
  pub all : rows ≡ rows_of_sources range written ++ rows_of_sources range last
  pub whole : IsWhole gap rows

-- The lines of these rows were put, and there are so many.
pub record PutsRows {R W : Type 0} (remaining : R → Option (List ℕ))
    (contents : W → Option (List ℕ)) (limit gap : ℕ) (range : SourceRange)
    (first now : List (Counted R)) (count : ℕ) (old new : Outlet W) (rows : List Row)
    : Type 0 where
  pub counted : count ≡ length rows
  pub puts : Puts {E = Unit {0}} contents (Ok tt) old new (lines_of_rows rows)
  pub book : IsFoldedBook remaining limit gap range first now rows

-- The lines of the rows were put; at `Write` a prefix of them and of the last row's line went out.
abbrev pub PutsPart : {W : Type 0} → (W → Option (List ℕ)) → FoldFault → List Row → List Row
    → Outlet W → Outlet W → Type 0
PutsPart contents Write rows last old new =
    Puts {E = FoldFault} contents (Err Write) old new (lines_of_rows (rows ++ last))
PutsPart contents fault rows last old new =
    Puts {E = Unit {0}} contents (Ok tt) old new (lines_of_rows rows)

-- What was put of the rows before the fold ended early.
pub record LeavesRows {R W : Type 0} (remaining : R → Option (List ℕ))
    (contents : W → Option (List ℕ)) (limit gap : ℕ) (range : SourceRange) (fault : FoldFault)
    (first now : List (Counted R)) (old new : Outlet W) : Type 0 where
  pub rows : List Row
  pub last : List Row
  pub begun : IsBegun remaining limit gap first now rows last
  pub rows_are : IsWhole gap (rows_of_sources range rows)
  pub put : PutsPart contents fault (rows_of_sources range rows) (rows_of_sources range last) old
      new

-- The header was sent before; at `Write` a prefix of header and lines went out.
abbrev pub PutsTextPart : {W : Type 0} → (W → Option (List ℕ)) → ℕ → FoldFault → List Row
    → List Row → Outlet W → Outlet W → Type 0
PutsTextPart contents gap Write rows last old new = Puts {E = FoldFault} contents (Err Write)
    old new (written_text (record { gap = gap; rows = rows ++ last }))
PutsTextPart {W = W} contents gap fault rows last old new = (mid : Outlet W)
    × Puts {E = Unit {0}} contents (Ok tt) old mid (header_text gap) × (held_of mid ≡ [])
    × Puts {E = Unit {0}} contents (Ok tt) mid new (lines_of_rows rows)

-- What was put of the text before the fold ended early.
pub record LeavesText {R W : Type 0} (remaining : R → Option (List ℕ))
    (contents : W → Option (List ℕ)) (limit gap : ℕ) (range : SourceRange) (fault : FoldFault)
    (first now : List (Counted R)) (old new : Outlet W) : Type 0 where
  pub rows : List Row
  pub last : List Row
  pub begun : IsBegun remaining limit gap first now rows last
  pub rows_are : IsWhole gap (rows_of_sources range rows)
  pub put : PutsTextPart contents gap fault (rows_of_sources range rows)
      (rows_of_sources range last) old new
