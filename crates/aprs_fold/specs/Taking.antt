-- Rows that are taken in order and written, once no later row can join them. No public clause cites
-- this module.
use Rattle.std.specs.Prelude.{◌≡◌, ◌<◌, ℕ, Bool, true, false, List, [], ◌∷◌, length, Option, Ok, Err}
use Rattle.std.specs.List.{flat_map}
use Rattle.aprs_io.specs.Outlet.{Puts}
use Rattle.aprs_io.specs.declared.outlet.Outlet.{Outlet}
use Rattle.aprs_log.specs.declared.moment_form.MomentForm.TheVariants.{Millis}
use Rattle.aprs_transmissions.specs.Lists.{◌∈◌}
use Rattle.aprs_transmissions.specs.Row.{Row}
use Rattle.aprs_bookfile.specs.RowLines.{line_and_lf}
use Rattle.aprs_bookfile.specs.Text.{IsBookRow}
use Rattle.aprs_fold.specs.Folding.{rows_put, TakesNext}
use Rattle.aprs_fold.specs.Range.{rows_of_sources}
use Rattle.aprs_fold.specs.declared.range.SourceRange.{SourceRange}
use Rattle.aprs_fold.specs.declared.fault.FoldFault.{FoldFault}
use Rattle.aprs_fold.specs.declared.fault.FoldFault.TheVariants.{Memory, Write}

-- The lines of these rows.
abbrev pub lines_of_rows : List Row → List ℕ
lines_of_rows rows = flat_map line_and_lf rows

-- There is one row where the boolean is true, and none where it is false.
abbrev pub IsThere : Bool → List Row → Type 0
IsThere true last = (own : Row) × (last ≡ own ∷ [])
IsThere false last = last ≡ []

-- A line can spell each of the rows that has a receiver.
abbrev pub AreSpelled : List Row → Type 0
AreSpelled rows = (x : Row) → x ∈ rows → 0 < length x.receivers → IsBookRow Millis x

-- The lines of these rows were put.
pub record HasPut {W : Type 0} (contents : W → Option (List ℕ)) (old new : Outlet W)
    (rows : List Row) : Type 0 where
  pub puts : Puts {E = Unit {0}} contents (Ok tt) old new (lines_of_rows rows)
  pub spelled : AreSpelled rows

-- The next row was taken, and of a last one that it closed the line was put where its source is
-- within the range; `wrote` says whether a line was.
pub record Takes {W : Type 0} (contents : W → Option (List ℕ)) (range : SourceRange)
    (wrote : Bool) (gap : ℕ) (old new : Outlet W) (last : List Row) (next : Row) (after : List Row)
    : Type 0 where
  pub closed : Bool
  pub takes : TakesNext closed gap last next after
  pub puts : HasPut contents old new (rows_of_sources range (rows_put closed last))
  pub is_there : IsThere wrote (rows_of_sources range (rows_put closed last))

-- The output was refused: a prefix of these lines went out.
abbrev pub FailsPut : {W : Type 0} → (W → Option (List ℕ)) → FoldFault → Outlet W → Outlet W
    → List Row → Type 0
FailsPut contents fault old new rows =
    (fault ≡ Write) × Puts {E = FoldFault} contents (Err Write) old new (lines_of_rows rows)

-- Where the last row was closed, the next one is to be in its place.
abbrev pub ClosesFor : Bool → ℕ → List Row → Row → Type 0
ClosesFor true gap last next = TakesNext true gap last next (next ∷ [])
ClosesFor false gap last next = Unit {0}

-- At `Write` a prefix of the last row's line went out. At `Memory` that line was put, and no later
-- row joins it; or nothing was. No other fault comes. A row out of the range has no line.
abbrev pub FailsTaking : {W : Type 0} → (W → Option (List ℕ)) → SourceRange → ℕ → FoldFault
    → Outlet W → Outlet W → List Row → Row → Type 0
FailsTaking contents range gap Write old new last next = Puts {E = FoldFault} contents (Err Write)
    old new (lines_of_rows (rows_of_sources range last))
FailsTaking contents range gap Memory old new last next = (closed : Bool)
    × HasPut contents old new (rows_of_sources range (rows_put closed last))
    × ClosesFor closed gap last next
FailsTaking contents range gap fault old new last next = ⊥
