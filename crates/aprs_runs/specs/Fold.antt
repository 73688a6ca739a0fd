-- How a fold of book files ends.
use Rattle.std.specs.Prelude.{◌≡◌, ℕ, List, [], ◌∷◌, Option}
use Rattle.aprs_io.specs.declared.device.Counted.{Counted}
use Rattle.aprs_log.specs.Reception.{Received}
use Rattle.aprs_transmissions.specs.Book.{BookOf}
use Rattle.aprs_transmissions.specs.Gap.{millis_of}
use Rattle.aprs_transmissions.specs.Row.{Row}
use Rattle.aprs_bookfile.specs.Text.{book_text}
use Rattle.aprs_bookfile.specs.declared.version.Version.TheVariants.{Three}
use Rattle.aprs_fold.specs.Fold.{IsLeft}
use Rattle.aprs_fold.specs.Inputs.{IsRefused}
use Rattle.aprs_fold.specs.Range.{rows_of_sources}
use Rattle.aprs_fold.specs.declared.fault.FoldFault.{FoldFault}
use Rattle.aprs_fold.specs.declared.fault.FoldFault.TheVariants as fold
use Rattle.aprs_fold.specs.declared.range.SourceRange.{SourceRange}
use Rattle.aprs_runs.specs.Inputs.{IsBookFileOf}
use Rattle.aprs_runs.specs.Several.{GotOf}
use Rattle.aprs_runs.specs.declared.fault.InputFault.TheVariants as input
use Rattle.aprs_runs.specs.declared.fault.RunFault.{RunFault}
use Rattle.aprs_runs.specs.declared.fault.RunFault.TheVariants as run

-- Each input is a book file of this gap.
abbrev pub AreBookFiles : {limit : ℕ} → ℕ → List (GotOf limit) → Type 0
AreBookFiles gap [] = Unit {0}
AreBookFiles gap (g ∷ gots) =
    ((S : List Received) × IsBookFileOf gap S g.text g.ending) × AreBookFiles gap gots

-- The text is that of those rows of the book of S under this gap, in seconds, whose sources are
-- within the range, in version 3.
pub record IsTextOfSources (range : SourceRange) (gap : ℕ) (S : List Received) (text : List ℕ)
    : Type 0 where
  pub rows : List Row
  pub book : BookOf (millis_of gap) S rows
  pub text_is : text ≡ book_text (Three gap) (rows_of_sources range rows)

-- The run's fault for that of a fold.
abbrev pub run_fault_of : FoldFault → RunFault
run_fault_of (fold.Input index fault) = run.Input index (input.Book fault)
run_fault_of (fold.OtherGap index) = run.Input index input.OtherGap
run_fault_of fold.Memory = run.Memory
run_fault_of fold.Write = run.Write

-- The run's fault is that of a fold: an input is refused for it, or it is `Memory` or `Write`. A
-- part of a book's text was written, of the range's rows of the book of rows that were taken of the
-- inputs.
pub record EndsEarly {R W : Type 0} (remaining : R → Option (List ℕ))
    (contents : W → Option (List ℕ)) (limit gap : ℕ) (range : SourceRange) (answer : RunFault)
    (old new : List (Counted R)) (first last : Counted W) : Type 0 where
  pub fault : FoldFault
  pub is : answer ≡ run_fault_of fault
  pub refused : IsRefused remaining limit gap fault old new
  pub left : IsLeft remaining contents limit gap range fault old new first last
