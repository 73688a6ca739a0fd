-- What a fold of book files reads.
use Rattle.std.specs.Prelude.{◌≡◌, ◌≢◌, ℕ, List, [], ◌∷◌, ◌++◌, Option, Some, Ok, Err, IfSome, slice_get}
use Rattle.std.specs.List.{flat_map}
use Rattle.aprs_io.specs.Device.{Calls, Last}
use Rattle.aprs_io.specs.Input.{Gets}
use Rattle.aprs_io.specs.declared.device.Counted.{Counted}
use Rattle.aprs_io.specs.declared.input.InputEnd.{InputEnd}
use Rattle.aprs_transmissions.specs.BookValue.{BookValue}
use Rattle.aprs_transmissions.specs.Gap.{millis_of}
use Rattle.aprs_transmissions.specs.Row.{Row}
use Rattle.aprs_transmissions.specs.Together.{book_together}
use Rattle.aprs_bookfile.specs.Reading.{IsAnswered}
use Rattle.aprs_bookfile.specs.RowLines.{ended_by_lf}
use Rattle.aprs_bookfile.specs.Version.{gap_of, header_of, IsVersion}
use Rattle.aprs_bookfile.specs.declared.version.Version.{Version}
use Rattle.aprs_fold.specs.declared.fault.FoldFault.{FoldFault}
use Rattle.aprs_fold.specs.declared.fault.FoldFault.TheVariants.{Input, OtherGap, Memory, Write}

-- Each input is the whole text of a book of this gap, and was read to its end; these are their
-- rows.
abbrev pub AreBooks : {R : Type 0} → (R → Option (List ℕ)) → ℕ → ℕ → List (Counted R)
    → List (Counted R) → List (List Row) → Type 0
AreBooks remaining limit gap [] [] [] = Unit {0}
AreBooks remaining limit gap (f ∷ first) (n ∷ now) (own ∷ rows) =
    IsAnswered remaining limit [] (Ok (record { gap = gap; rows = own })) f n
    × AreBooks remaining limit gap first now rows
AreBooks remaining limit gap first now rows = ⊥

-- All rows of these lists.
abbrev pub all_of : List (List Row) → List Row
all_of = flat_map (λ rows. rows)

-- The book of all these rows.
abbrev pub book_of_all : ℕ → List (List Row) → BookValue
book_of_all gap rows = record { gap = gap; rows = book_together (millis_of gap) (all_of rows) }

-- The input begins as a book file of a gap that isn't this. Where its bytes aren't known, nothing
-- is said.
abbrev pub BeginsOther : ℕ → Option (List ℕ) → Type 0
BeginsOther gap (Some text) = (version : Version) × (rest : List ℕ) × IsVersion version
    × (gap_of version ≢ gap) × (text ≡ ended_by_lf (header_of version) ++ rest)
BeginsOther gap known = Unit {0}

-- Why a fold ends before its end, by its inputs. The input of that number has this fault as a book
-- file, as far as it was read, or begins as one of another gap. `Memory` and `Write` say nothing of
-- the inputs.
abbrev pub IsRefused : {R : Type 0} → (R → Option (List ℕ)) → ℕ → ℕ → FoldFault
    → List (Counted R) → List (Counted R) → Type 0
IsRefused {R = R} remaining limit gap (Input index fault) old new =
    (f : Counted R) × (n : Counted R) × (slice_get old index ≡ Some f)
    × (slice_get new index ≡ Some n) × IsAnswered remaining limit [] (Err fault) f n
IsRefused {R = R} remaining limit gap (OtherGap index) old new =
    (f : Counted R) × (slice_get old index ≡ Some f) × BeginsOther gap (remaining f.device)
IsRefused remaining limit gap fault old new = Unit {0}

-- Of the input some bytes were got, at most `limit`, and one more was taken at `TooLong`. It wasn't
-- asked after its end, nor after a fault. `Read` as its ending fits also where reading stopped
-- early or never began.
pub record IsAsked {R : Type 0} (remaining : R → Option (List ℕ)) (limit : ℕ) (old new : Counted R)
    : Type 0 where
  pub gets : IfSome (remaining old.device) (λ input. (text : List ℕ) × (ending : InputEnd)
      × Gets limit input (remaining new.device) text ending)
  pub calls : (last : Last) × Calls last old new

-- Why a fold ends before its end, by one input, which has this number: it has this fault as a book
-- file, as far as it was read, or begins as one of another gap.
abbrev pub IsOneRefused : {R : Type 0} → (R → Option (List ℕ)) → ℕ → ℕ → ℕ → FoldFault
    → Counted R → Counted R → Type 0
IsOneRefused remaining limit gap number (Input index fault) old new =
    (index ≡ number) × IsAnswered remaining limit [] (Err fault) old new
IsOneRefused remaining limit gap number (OtherGap index) old new =
    (index ≡ number) × BeginsOther gap (remaining old.device) × IsAsked remaining limit old new
IsOneRefused remaining limit gap number Memory old new = IsAsked remaining limit old new
IsOneRefused remaining limit gap number Write old new = ⊥

-- Each input was asked as `IsAsked` says: at most `limit` bytes were got of it, and it wasn't asked
-- after its end, nor after a fault.
abbrev pub AreAsked : {R : Type 0} → (R → Option (List ℕ)) → ℕ → List (Counted R)
    → List (Counted R) → Type 0
AreAsked remaining limit [] [] = Unit {0}
AreAsked remaining limit (f ∷ first) (n ∷ now) =
    IsAsked remaining limit f n × AreAsked remaining limit first now
AreAsked remaining limit first now = ⊥
