-- Lemmas on an input that is read into a book.
use Rattle.aprs_runs.proofs.Common.{◌≡◌, ℕ, true, false, Bool, List, inl, inr, refl, BookValue, Received}
use Rattle.aprs_log.specs.declared.InputEnd.{InputEnd}
use Rattle.aprs_runs.specs.InputBook.{IsGapOf}
use Rattle.aprs_runs.specs.InputRows.{GivesRows}
use Rattle.aprs_runs.specs.Inputs.{GivesSet, IsBookFileOf, has_book_mark}
use Rattle.aprs_runs.proofs.Beginnings.{log_is_no_book}
use Rattle.aprs_runs.specs.Refused.{IsNotTaken}
use Rattle.aprs_runs.specs.declared.fault.InputFault.TheVariants.{OtherGap}

-- a log is read with the asked gap, so that only a book file has another
other_gap : (gap : ℕ) (t : List ℕ) (own : ℕ) → (own ≡ gap → ⊥) → IsGapOf gap t own
    → has_book_mark t ≡ true
other_gap gap t own differs is = by (has_book_mark t) refl
  where
    by : (b : Bool) → has_book_mark t ≡ b → has_book_mark t ≡ true
    by true e = e
    by false e = absurd (differs (is e))

pub file_of : (gap own : ℕ) (t : List ℕ) (c : InputEnd) (S : List Received) → (own ≡ gap → ⊥)
    → IsGapOf gap t own → GivesSet own t c S → IsBookFileOf own S t c
file_of gap own t c S differs is (inl p) = p
file_of gap own t c S differs is (inr p) =
    absurd (log_is_no_book t c p.0 p.1 (other_gap gap t own differs is))

-- rows of another gap are not taken
pub other_rows : (gap own : ℕ) (old new : BookValue) (t : List ℕ) (c : InputEnd) → (own ≡ gap → ⊥)
    → GivesRows gap own old new t c → IsNotTaken gap OtherGap t c
other_rows gap own old new t c differs h =
    (own, h.set, differs, file_of gap own t c h.set differs h.gap_is h.gives)
