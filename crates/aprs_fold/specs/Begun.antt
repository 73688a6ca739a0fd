-- How far the inputs' rows were taken where a fold ends early.
use Rattle.std.specs.Prelude.{◌≡◌, ℕ, ◌⊎◌, List, [], ◌∷◌, ◌++◌, map, Option, Some, Ok}
use Rattle.aprs_io.specs.declared.device.Counted.{Counted}
use Rattle.aprs_log.specs.LogText.{text_of_lines}
use Rattle.aprs_transmissions.specs.Gap.{millis_of}
use Rattle.aprs_transmissions.specs.Row.{Row}
use Rattle.aprs_bookfile.specs.Reading.{IsAnswered}
use Rattle.aprs_bookfile.specs.Text.{row_line, IsBookRows}
use Rattle.aprs_bookfile.specs.Version.{form_of, gap_of, header_of}
use Rattle.aprs_bookfile.specs.declared.version.Version.{Version}
use Rattle.aprs_fold.specs.Folding.{IsFolding}
use Rattle.aprs_fold.specs.Inputs.{all_of}

-- The input begins as a book file of this gap, with the lines of these rows. Where its bytes aren't
-- known, nothing is said.
abbrev pub BeginsWith : ℕ → List Row → Option (List ℕ) → Type 0
BeginsWith gap rows (Some text) = (version : Version) × (rest : List ℕ) × (gap_of version ≡ gap)
    × IsBookRows version rows
    × (text ≡ text_of_lines (header_of version ∷ map (row_line (form_of version)) rows) ++ rest)
BeginsWith gap rows known = Unit {0}

-- The row in front is the input's next one; or it is the last that was taken, where the next wasn't
-- got.
abbrev pub IsNextOrLast : ℕ → Option (List ℕ) → List Row → Row → Type 0
IsNextOrLast gap known taken x = BeginsWith gap (taken ++ x ∷ []) known
    ⊎ ((before : List Row) × (taken ≡ before ++ x ∷ []) × BeginsWith gap taken known)

-- These rows, the first ones of the input, were taken, and one is in front; or they are all rows of
-- its book, and none is in front.
abbrev pub IsTaken : {R : Type 0} → (R → Option (List ℕ)) → ℕ → ℕ → Counted R → Counted R
    → List Row → List Row → Type 0
IsTaken remaining limit gap old new taken front =
    ((x : Row) × (front ≡ x ∷ []) × IsNextOrLast gap (remaining old.device) taken x)
    ⊎ ((front ≡ [])
    × IsAnswered remaining limit [] (Ok (record { gap = gap; rows = taken })) old new)

-- Of each input these rows were taken, and this one is in front, as `IsTaken` says.
abbrev pub AreTaken : {R : Type 0} → (R → Option (List ℕ)) → ℕ → ℕ → List (Counted R)
    → List (Counted R) → List (List Row) → List (List Row) → Type 0
AreTaken remaining limit gap [] [] [] [] = Unit {0}
AreTaken remaining limit gap (o ∷ old) (n ∷ new) (t ∷ taken) (f ∷ front) =
    IsTaken remaining limit gap o n t f × AreTaken remaining limit gap old new taken front
AreTaken remaining limit gap old new taken front = ⊥

-- The rows that were taken of the inputs are folded, and none of them comes after a row in front.
-- `rows` are final, and the one in `last` may still be joined.
pub record AreFolded {R : Type 0} (remaining : R → Option (List ℕ)) (limit gap : ℕ)
    (old new : List (Counted R)) (rows last : List Row) : Type 0 where
  pub taken : List (List Row)
  pub front : List (List Row)
  pub inputs : AreTaken remaining limit gap old new taken front
  pub folding : IsFolding (millis_of gap) (all_of taken) (all_of front) rows last

-- The rows that were taken are folded so; or no row is final, and no last one is there.
abbrev pub IsBegun : {R : Type 0} → (R → Option (List ℕ)) → ℕ → ℕ → List (Counted R)
    → List (Counted R) → List Row → List Row → Type 0
IsBegun remaining limit gap old new rows last =
    ((rows ≡ []) × (last ≡ [])) ⊎ AreFolded remaining limit gap old new rows last
