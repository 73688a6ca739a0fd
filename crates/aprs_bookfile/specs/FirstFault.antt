-- The first fault of a text that isn't that of a book, as it is found: right after the longest
-- prefix of lines that a book's text may begin with, in some version. No public clause cites this
-- module.
use Rattle.std.specs.Prelude.{◌≡◌, ◌≢◌, ℕ, ◌+◌, ◌<◌, ◌≤◌, ◌⊎◌, List, [], ◌∷◌, ◌++◌, length, map}
use Rattle.aprs_io.specs.declared.input.InputEnd.{InputEnd}
use Rattle.aprs_io.specs.declared.input.InputEnd.TheVariants as how
use Rattle.aprs_log.specs.LogText.{text_of_lines}
use Rattle.aprs_transmissions.specs.Gap.{millis_of}
use Rattle.aprs_transmissions.specs.Row.{Row}
use Rattle.aprs_bookfile.specs.Fault.{ending_cause}
use Rattle.aprs_io.specs.Cut.{Lacks}
use Rattle.aprs_bookfile.specs.Text.{row_line, lines_of, IsBookRows}
use Rattle.aprs_bookfile.specs.TextFault.{BeginBook, IsWrong}
use Rattle.aprs_bookfile.specs.Version.{form_of, gap_of, header_of, IsVersion}
use Rattle.aprs_bookfile.specs.declared.fault.BookCause.{BookCause}
use Rattle.aprs_bookfile.specs.declared.fault.BookCause.TheVariants as why
use Rattle.aprs_bookfile.specs.declared.fault.BookFault.{BookFault}
use Rattle.aprs_bookfile.specs.declared.version.Version.{Version}

-- ---- what is wrong with a whole line

-- The line is the header of no version, and the cause is `Header`.
abbrev pub IsNoHeader : List ℕ → BookCause → Type 0
IsNoHeader line cause =
    ((version : Version) → IsVersion version → line ≢ header_of version) × (cause ≡ why.Header)

-- ---- what is wrong with the rest of a text, after whole lines

-- The rest is a line that isn't finished: it has no LF, and the cause says how the input ended.
abbrev pub IsCut : List ℕ → InputEnd → BookCause → Type 0
IsCut rest ending cause = Lacks 10 rest × (cause ≡ ending_cause ending)

-- The rest begins with a whole line, of which P holds.
pub record HasLine (rest : List ℕ) (P : List ℕ → Type 0) : Type 0 where
  pub line : List ℕ
  pub more : List ℕ
  pub is : rest ≡ line ++ 10 ∷ more
  pub one : Lacks 10 line
  pub holds : P line

-- The first line isn't finished, or it is no header.
abbrev pub HeaderFault : List ℕ → InputEnd → BookCause → Type 0
HeaderFault rest ending cause =
    IsCut rest ending cause ⊎ HasLine rest (λ line. IsNoHeader line cause)

-- The line after these rows isn't finished, or it is wrong.
abbrev pub LineFault : Version → List Row → List ℕ → InputEnd → BookCause → Type 0
LineFault version rows rest ending cause = IsCut rest ending cause
    ⊎ HasLine rest
    (λ line. IsWrong (millis_of (gap_of version)) (form_of version) rows line cause)

-- Something follows the last line, or it wasn't seen that nothing does.
abbrev pub EndFault : List ℕ → InputEnd → BookCause → Type 0
EndFault rest ending cause = ((0 < length rest) × (cause ≡ why.After))
    ⊎ ((rest ≡ []) × (ending ≢ how.End) × (cause ≡ ending_cause ending))

-- ---- the three places of a fault

-- A fault at the header: no line was read before it.
pub record AtHeader (lines : List (List ℕ)) (rest : List ℕ) (ending : InputEnd) (cause : BookCause)
    : Type 0 where
  pub none_read : lines ≡ []
  pub fault : HeaderFault rest ending cause

-- A fault among the rows: a version's header and the lines of sound rows were read before it, and
-- the next line is at fault.
pub record AmongRows (lines : List (List ℕ)) (rest : List ℕ) (ending : InputEnd) (cause : BookCause)
    : Type 0 where
  pub version : Version
  pub rows : List Row
  pub sound : IsBookRows version rows
  pub read : lines ≡ header_of version ∷ map (row_line (form_of version)) rows
  pub fault : LineFault version rows rest ending cause

-- A fault past the end: all lines of a book were read before it, and something follows the last, or
-- the input's end wasn't seen.
pub record PastEnd (lines : List (List ℕ)) (rest : List ℕ) (ending : InputEnd) (cause : BookCause)
    : Type 0 where
  pub version : Version
  pub rows : List Row
  pub sound : IsBookRows version rows
  pub read : lines ≡ lines_of version rows
  pub fault : EndFault rest ending cause

-- After these lines, the rest is at fault: at the header, among the rows or past the end.
abbrev pub RestIsAtFault : List (List ℕ) → List ℕ → InputEnd → BookCause → Type 0
RestIsAtFault lines rest ending cause = AtHeader lines rest ending cause
    ⊎ (AmongRows lines rest ending cause ⊎ PastEnd lines rest ending cause)

-- The first fault of a text after which this ending came: the text is some lines and a rest that is
-- at fault after them, and the fault's line is the one after those.
pub record FirstFault (text : List ℕ) (ending : InputEnd) (found : BookFault) : Type 0 where
  pub lines : List (List ℕ)
  pub rest : List ℕ
  pub whole : text ≡ text_of_lines lines ++ rest
  pub line : found.line ≡ length lines + 1
  pub fault : RestIsAtFault lines rest ending found.cause

-- ---- where an allocation failed

-- An allocation failed in the line after these lines, when its prefix `line` was read and at most
-- `most` bytes more of the text.
pub record IsMemoryAt (most : ℕ) (text : List ℕ) (fault : BookFault) : Type 0 where
  pub refused : fault.cause ≡ why.Memory
  pub lines : List (List ℕ)
  pub line : List ℕ
  pub more : List ℕ
  pub whole : text ≡ text_of_lines lines ++ (line ++ more)
  pub one : Lacks 10 line
  pub near : length more ≤ most
  pub begins : BeginBook lines
  pub number : fault.line ≡ length lines + 1
