-- What is written of a book tells of each set whose book it is.
use Rattle.aprs_runs.proofs.Common.{◌≡◌, ℕ, List, BookOf, BookValue, millis_of, Received}
use Rattle.aprs_runs.specs.Extract.{IsExtract, IsExtractOf}
use Rattle.aprs_runs.specs.declared.extract.Extract.{Extract}
use Rattle.aprs_runs.specs.declared.extract.Extract.TheVariants as extract
use Rattle.aprs_runs.proofs.Histories.{history_of_book}
use Rattle.aprs_runs.proofs.Shows.{listing_of_shown}
use Rattle.aprs_runs.proofs.Tables.{table_of_book}

pub extract_of_book : (x : Extract) (gap : ℕ) (b : BookValue) (text : List ℕ) → b.gap ≡ gap
    → IsExtract x b text → (S : List Received) → BookOf (millis_of gap) S b.rows
    → IsExtractOf x gap S text
extract_of_book extract.Listing gap b text = listing_of_shown gap b text
extract_of_book extract.History gap b text = history_of_book gap b text
extract_of_book (extract.Table t) gap b text = table_of_book t gap b text
