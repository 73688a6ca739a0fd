-- Which sets of receptions an input stands for, by the text that was got of it and by what came
-- after that.
use Rattle.std.specs.Prelude.{◌≡◌, ◌==◌, ◌⊎◌, ℕ, Bool, List, codes, All}
use Rattle.std.specs.List.{starts_with}
use Rattle.aprs_io.specs.declared.input.InputEnd.{InputEnd}
use Rattle.aprs_io.specs.declared.input.InputEnd.TheVariants as how
use Rattle.aprs_log.specs.LogText.{IsLogText}
use Rattle.aprs_log.specs.Reception.{Received}
use Rattle.aprs_transmissions.specs.Book.{BookOf}
use Rattle.aprs_transmissions.specs.Gap.{millis_of}
use Rattle.aprs_transmissions.specs.Lists.{SameMembers}
use Rattle.aprs_transmissions.specs.Row.{Row}
use Rattle.aprs_bookfile.specs.Text.{book_text, IsBookRow}
use Rattle.aprs_bookfile.specs.Version.{form_of, gap_of, IsVersion}
use Rattle.aprs_bookfile.specs.declared.version.Version.{Version}

-- Whether the text begins with the mark of a book file, which no log does.
abbrev pub has_book_mark : List ℕ → Bool
has_book_mark text = starts_with ◌==◌ text (codes "APRSBOOK")

-- A whole book file of this gap, in seconds, which is one that a book can have: the text, in some
-- version, of rows that are the book of S. A line can spell each row in the version's form, and
-- each row's frame is a UI frame.
pub record IsBookFileOf (gap : ℕ) (S : List Received) (text : List ℕ) (ending : InputEnd)
    : Type 0 where
  pub version : Version
  pub rows : List Row
  pub gap_is : gap_of version ≡ gap
  pub is_version : IsVersion version
  pub spelled : All (IsBookRow (form_of version)) rows
  pub text_is : text ≡ book_text version rows
  pub whole : ending ≡ how.End
  pub book : BookOf (millis_of gap) S rows

-- The input stands for the set S: it is a book file of this gap, and its book is that of S, as of
-- other sets too; or it is a log without a fault, and S are the receptions that its lines report.
-- Any other input stands for none: one whose text has a fault, one that wasn't got to its end, and
-- a book file of another gap.
abbrev pub GivesSet : ℕ → List ℕ → InputEnd → List Received → Type 0
GivesSet gap text ending S = IsBookFileOf gap S text ending
    ⊎ ((T : List Received) × IsLogText text ending T × SameMembers S T)
