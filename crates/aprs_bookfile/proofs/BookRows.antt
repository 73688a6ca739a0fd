-- The rows of a book's text are sound.
use Rattle.aprs_bookfile.proofs.Common.{List, All, millis_of, Row, Sound, witnesses, sound, witnessed}
use Rattle.aprs_bookfile.specs.Text.{IsBookRow, IsBookRows}
use Rattle.aprs_bookfile.specs.Version.{form_of, gap_of, IsVersion}
use Rattle.aprs_bookfile.specs.declared.version.Version.{Version}
use Rattle.aprs_bookfile.proofs.Versions.{some_millis}

pub rows_sound : (v : Version) (rows : List Row) → IsBookRows v rows
    → Sound (millis_of (gap_of v)) rows
rows_sound v rows is = sound (millis_of (gap_of v)) is.book.0 rows is.book.1

pub rows_are : (v : Version) (rows : List Row) → IsVersion v → Sound (millis_of (gap_of v)) rows
    → All (IsBookRow (form_of v)) rows → IsBookRows v rows
rows_are v rows is s each = record {
  version = is;
  book = (witnesses rows, witnessed (millis_of (gap_of v)) rows (some_millis v is) s);
  each = each;
}
