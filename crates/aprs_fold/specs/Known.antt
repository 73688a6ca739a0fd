-- The first of the inputs has a known book, and what of the fold is new to it. No public clause
-- cites this module.
use Rattle.std.specs.Prelude.{◌≡◌, ◌⊎◌, ℕ, Bool, List, ◌++◌, length, Option}
use Rattle.aprs_io.specs.declared.device.Counted.{Counted}
use Rattle.aprs_io.specs.declared.outlet.Outlet.{Outlet}
use Rattle.aprs_transmissions.specs.Gap.{millis_of}
use Rattle.aprs_transmissions.specs.Lists.{◌∈◌}
use Rattle.aprs_transmissions.specs.Order.{IsUpTo}
use Rattle.aprs_transmissions.specs.Row.{Row, row_cmp}
use Rattle.aprs_transmissions.specs.Sound.{Sound}
use Rattle.aprs_bookfile.specs.declared.row_stream.RowStream.{RowStream}
use Rattle.aprs_fold.specs.Folding.{rows_put, IsFolding, TakesNext}
use Rattle.aprs_fold.specs.NewRows.{new_rows}
use Rattle.aprs_fold.specs.Fold.{IsWhole}
use Rattle.aprs_fold.specs.Inputs.{all_of}
use Rattle.aprs_fold.specs.News.{first_of}
use Rattle.aprs_fold.specs.Range.{rows_of_sources}
use Rattle.aprs_fold.specs.Streams.{fronts_of, AreReading}
use Rattle.aprs_fold.specs.Taking.{FailsPut, HasPut, IsThere}
use Rattle.aprs_fold.specs.declared.fault.FoldFault.{FoldFault}
use Rattle.aprs_fold.specs.declared.fault.FoldFault.TheVariants.{Memory}
use Rattle.aprs_fold.specs.declared.range.SourceRange.{SourceRange}

-- ---- a row that is taken

-- The line of the last row was put where its source is within the range and the known row is
-- another; `wrote` says whether it was.
pub record PutsNew {W : Type 0} (contents : W → Option (List ℕ)) (range : SourceRange)
    (wrote : Bool) (known : List Row) (old new : Outlet W) (last : List Row) : Type 0 where
  pub puts : HasPut contents old new (new_rows known (rows_of_sources range last))
  pub is_there : IsThere wrote (new_rows known (rows_of_sources range last))

-- The next row was taken, and a last one that it closed was put, as `PutsNew` says.
pub record TakesNew {W : Type 0} (contents : W → Option (List ℕ)) (range : SourceRange)
    (wrote : Bool) (gap : ℕ) (known : List Row) (old new : Outlet W) (last : List Row)
    (next : Row) (after : List Row) : Type 0 where
  pub closed : Bool
  pub takes : TakesNext closed gap last next after
  pub puts : PutsNew contents range wrote known old new (rows_put closed last)

-- At `Memory` the last row was put, or nothing was. At `Write` a prefix of its line went out.
abbrev pub FailsNew : {W : Type 0} → (W → Option (List ℕ)) → SourceRange → FoldFault → List Row
    → Outlet W → Outlet W → List Row → Type 0
FailsNew contents range fault known old new last =
    ((fault ≡ Memory) × ((closed : Bool) × (wrote : Bool)
    × PutsNew contents range wrote known old new (rows_put closed last)))
    ⊎ FailsPut contents fault old new (rows_of_sources range last)

-- ---- the walk

-- One of the rows in front doesn't come after y.
abbrev pub IsAhead : List Row → Row → Type 0
IsAhead front y = (x : Row) × (x ∈ front) × IsUpTo row_cmp x y

-- So far these rows were taken of each input, and these are final; the last one is still open. What
-- was put are those of the final rows that are new to the first input and within the range,
-- whatever rows it still has.
pub record IsNewing {R W A : Type 0} (remaining : R → Option (List ℕ))
    (contents : W → Option (List ℕ)) (limit gap : ℕ) (range : SourceRange)
    (first now : List (Counted R)) (streams : List (RowStream A)) (begun out : Outlet W)
    (last : List Row) (count : ℕ) : Type 0 where
  pub taken : List (List Row)
  pub final : List Row
  pub reading : AreReading remaining limit gap first now streams taken
  pub folding : IsFolding (millis_of gap) (all_of taken) (fronts_of streams) final last
  pub sound : Sound (millis_of gap) (first_of taken)
  pub written : List Row
  pub are_new : (rest : List Row) → Sound (millis_of gap) (first_of taken ++ rest)
      → ((y : Row) → y ∈ rest → IsAhead (fronts_of streams) y)
      → written ≡ new_rows (first_of taken ++ rest) (rows_of_sources range final)
  pub put : HasPut contents begun out written
  pub counted : count ≡ length written

-- The lines of these rows, which are a book's, were put, and there are so many.
pub record PutsNews {W : Type 0} (contents : W → Option (List ℕ)) (gap count : ℕ)
    (old new : Outlet W) (rows : List Row) : Type 0 where
  pub put : HasPut contents old new rows
  pub counted : count ≡ length rows
  pub whole : IsWhole gap rows
