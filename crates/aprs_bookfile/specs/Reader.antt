-- What was read of a book's text at each stage.
use Rattle.std.specs.Prelude.{◌≡◌, ◌≢◌, ℕ, ◌+◌, ◌⊎◌, Bool, true, false, List, [], ◌∷◌, ◌++◌, length, map, None, Result, Ok, Err}
use Rattle.aprs_io.specs.declared.input.InputEnd.{InputEnd}
use Rattle.aprs_io.specs.declared.input.InputEnd.TheVariants as how
use Rattle.aprs_transmissions.specs.Gap.{millis_of, standard_gap}
use Rattle.aprs_transmissions.specs.Row.{Row}
use Rattle.aprs_rows.specs.Refusal.{refusal}
use Rattle.aprs_bookfile.specs.FirstFault.{FirstFault, IsMemoryAt, IsNoHeader}
use Rattle.aprs_bookfile.specs.TextFault.{IsWrong}
use Rattle.aprs_io.specs.Cut.{Lacks}
use Rattle.aprs_bookfile.specs.Text.{row_line, end_line, lines_of, IsBookRow, IsBookRows}
use Rattle.aprs_log.specs.LogText.{text_of_lines}
use Rattle.aprs_bookfile.specs.Fault.{ending_cause}
use Rattle.aprs_bookfile.specs.Version.{form_of, gap_of, header_of, IsVersion}
use Rattle.aprs_bookfile.specs.declared.fault.BookCause.{BookCause}
use Rattle.aprs_bookfile.specs.declared.fault.BookCause.TheVariants as why
use Rattle.aprs_bookfile.specs.declared.fault.BookFault.{BookFault}
use Rattle.aprs_bookfile.specs.declared.stage.Stage.{Stage}
use Rattle.aprs_bookfile.specs.declared.stage.Stage.TheVariants.{Header, Rows, Done}
use Rattle.aprs_bookfile.specs.declared.version.Version.{Version}

-- The whole lines that were read before this stage, where these are the rows.
abbrev pub lines_read : Stage → List Row → List (List ℕ)
lines_read Header rows = []
lines_read (Rows v) rows = header_of v ∷ map (row_line (form_of v)) rows
lines_read (Done v) rows = lines_of v rows

-- What rows there may be at this stage, and whether there may be a prefix of a line.
abbrev pub HoldsIn : Stage → List Row → List ℕ → Type 0
HoldsIn Header rows line = rows ≡ []
HoldsIn (Rows v) rows line = IsBookRows v rows
HoldsIn (Done v) rows line = IsBookRows v rows × (line ≡ [])

-- The reader has read this text: whole lines, and a prefix of a line.
pub record HasReadLines (stage : Stage) (rows : List Row) (line text : List ℕ) : Type 0 where
  pub text_is : text ≡ text_of_lines (lines_read stage rows) ++ line
  pub one : Lacks 10 line
  pub holds : HoldsIn stage rows line

-- The fault is the first one of this text (`FirstFault`), however its input ends. Or an allocation
-- failed in the line that the fault names (`IsMemoryAt`), when at most `most` bytes of the text
-- weren't looked at.
abbrev pub IsFault : ℕ → BookFault → List ℕ → Type 0
IsFault most fault text =
    IsMemoryAt most text fault ⊎ ((ending : InputEnd) → FirstFault text ending fault)

-- The number of the line that is read after the lines of so many rows.
abbrev pub line_number : Stage → ℕ → ℕ
line_number Header count = 1
line_number (Rows v) count = count + 2
line_number (Done v) count = count + 3

-- The gap that the header says; before that is read, the standard gap.
abbrev pub gap_in : Stage → ℕ
gap_in Header = standard_gap
gap_in (Rows v) = gap_of v
gap_in (Done v) = gap_of v

-- Whether the line that comes next is the first one.
abbrev pub is_first : Stage → Bool
is_first Header = true
is_first (Rows v) = false
is_first (Done v) = false

-- Whether the last line was read.
abbrev pub is_done : Stage → Bool
is_done Header = false
is_done (Rows v) = false
is_done (Done v) = true

-- Whether a book's text may end at this stage and in this way.
abbrev pub may_end : Stage → InputEnd → Bool
may_end (Done v) how.End = true
may_end (Done v) how.Read = false
may_end (Done v) how.TooLong = false
may_end Header ending = false
may_end (Rows v) ending = false

-- The cause is none of a device: no read failed, and the limit wasn't passed.
abbrev pub IsOfText : BookCause → Type 0
IsOfText cause = (cause ≢ why.Read) × (cause ≢ why.TooLong)

-- `Ok` comes only where the input ended (`End`), and a fault has the cause of this ending.
abbrev pub AgreesWithEnding : {A : Type 0} → InputEnd → Result A BookFault → Type 0
AgreesWithEnding ending (Ok value) = ending ≡ how.End
AgreesWithEnding ending (Err fault) = fault.cause ≡ ending_cause ending

-- After the lines of the old rows of this version a line is judged so: it is a row's, which nothing
-- refuses, and which is added to them, or the last line, or an allocation failed, or the line is
-- wrong.
abbrev pub JudgesRowLine : Version → Result Stage BookCause → List Row → List ℕ → List Row → Type 0
JudgesRowLine v (Ok Header) old line new = ⊥
JudgesRowLine v (Ok (Rows w)) old line new = (w ≡ v) × (x : Row) × IsBookRow (form_of v) x
    × (line ≡ row_line (form_of v) x) × (new ≡ old ++ x ∷ [])
    × (refusal (millis_of (gap_of v)) old x ≡ None)
JudgesRowLine v (Ok (Done w)) old line new = (w ≡ v) × (line ≡ end_line (length old)) × (new ≡ old)
JudgesRowLine v (Err cause) old line new =
    ((cause ≡ why.Memory) ⊎ IsWrong (millis_of (gap_of v)) (form_of v) old line cause)
    × (new ≡ old)

-- The first line is judged so: it is a version's header, or none. It adds no rows.
abbrev pub JudgesHeader : Result Stage BookCause → List Row → List ℕ → List Row → Type 0
JudgesHeader (Ok Header) old line new = ⊥
JudgesHeader (Ok (Rows v)) old line new = IsVersion v × (line ≡ header_of v) × (new ≡ old)
JudgesHeader (Ok (Done v)) old line new = ⊥
JudgesHeader (Err cause) old line new = IsNoHeader line cause × (new ≡ old)

-- At this stage a line is judged so; after the last line there may be none.
abbrev pub JudgesLine : Stage → Result Stage BookCause → List Row → List ℕ → List Row → Type 0
JudgesLine Header answer old line new = JudgesHeader answer old line new
JudgesLine (Rows v) answer old line new = JudgesRowLine v answer old line new
JudgesLine (Done v) answer old line new = (answer ≡ Err why.After) × (new ≡ old)
