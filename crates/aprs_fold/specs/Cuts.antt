-- Where rows that stand in a text are cut. No public clause cites this module.
use Rattle.std.specs.Prelude.{◌≡◌, ℕ, ◌+◌, ◌-◌, ◌^◌, ◌<◌, ◌≤◌, ◌⊎◌, Bool, false, true, List, [], ◌∷◌, ◌++◌, length, map, take, drop, Option, All}
use Rattle.aprs_ax25.specs.Callsign.{Call}
use Rattle.aprs_log.specs.LogText.{text_of_lines}
use Rattle.aprs_log.specs.declared.moment_form.MomentForm.{MomentForm}
use Rattle.aprs_transmissions.specs.Lists.{◌∈◌, Ordered}
use Rattle.aprs_transmissions.specs.Order.{IsBelow}
use Rattle.aprs_transmissions.specs.Row.{Row, row_cmp, row_key}
use Rattle.aprs_bookfile.specs.Text.{IsBookRow, IsBookRows, book_text, end_line, row_line}
use Rattle.aprs_bookfile.specs.Version.{form_of, header_of}
use Rattle.aprs_bookfile.specs.declared.version.Version.{Version}
use Rattle.aprs_fold.specs.Range.{rows_of_sources}
use Rattle.aprs_fold.specs.declared.range.SourceRange.{SourceRange}
use Rattle.aprs_fold.specs.Lines.{IsJudged, ReadsLine}
use Rattle.aprs_fold.specs.declared.range.find.Stretch.{Stretch}

-- A line begins at `at`: it is the place `low`, or an LF stands before it, at `low` or after it.
abbrev pub BeginsLine : List ℕ → ℕ → ℕ → Type 0
BeginsLine bytes low at = (at ≡ low)
    ⊎ ((from : ℕ) × (part : List ℕ) × (low ≤ from) × ReadsLine bytes from part at)

-- A line, at `start` or later, ends at the place `low`. If it is a row's, the row's source comes
-- before `end`, if there is one; and it is no last line.
pub record EndsBefore (end : Option Call) (bytes : List ℕ) (start low : ℕ) : Type 0 where
  pub at : ℕ
  pub line : List ℕ
  pub begins : BeginsLine bytes start at
  pub reads : ReadsLine bytes at line low
  pub judged : IsJudged end line true

-- The place `low` is `start`, or a line as `EndsBefore` says ends there.
abbrev pub IsLow : Option Call → List ℕ → ℕ → ℕ → Type 0
IsLow end bytes start low = (low ≡ start) ⊎ EndsBefore end bytes start low

-- Rows in order stand at this place, each as its line, then a last line that says `n`, and nothing
-- more.
pub record RowsStand (form : MomentForm) (rows : List Row) (n : ℕ) (bytes : List ℕ) (at : ℕ)
    : Type 0 where
  pub stand : drop at bytes ≡ text_of_lines (map (row_line form) rows ++ end_line n ∷ [])
  pub each : All (IsBookRow form) rows
  pub ascending : Ordered (IsBelow row_cmp) rows
  pub small : n < 2 ^ 64

-- Of these rows, which stand at `start`, those up to the place `at` have sources that pass the
-- test. Those after it have sources that don't.
pub record IsCutAt (test : Call → Bool) (form : MomentForm) (rows : List Row) (n : ℕ)
    (bytes : List ℕ) (start at : ℕ) : Type 0 where
  pub first : List Row
  pub rest : List Row
  pub whole : rows ≡ first ++ rest
  pub place : at ≡ start + length (text_of_lines (map (row_line form) first))
  pub before : (x : Row) → x ∈ first → test (row_key x).source ≡ true
  pub after : (x : Row) → x ∈ rest → test (row_key x).source ≡ false
  pub stand : RowsStand form rest n bytes at

-- Whatever rows stand at `start`, the test cuts them at the place `at`.
abbrev pub CutsRows : (Call → Bool) → List ℕ → ℕ → ℕ → Type 0
CutsRows test bytes start at = (form : MomentForm) (rows : List Row) (n : ℕ)
    → RowsStand form rows n bytes start → IsCutAt test form rows n bytes start at

-- Where the bytes are the text of a book, the stretch has its header and the lines of the rows
-- whose sources are within the range.
abbrev pub HasStretch : SourceRange → List ℕ → Stretch → Type 0
HasStretch range bytes s = (v : Version) (rows : List Row) → IsBookRows v rows
    → bytes ≡ book_text v rows
    → (header_of s.version ≡ header_of v)
    × (take (s.until - s.from) (drop s.from bytes)
    ≡ text_of_lines (map (row_line (form_of v)) (rows_of_sources range rows)))
