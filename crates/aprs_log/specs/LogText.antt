-- What a log's text says, and what its first fault is.
use Rattle.std.specs.Prelude.{◌≡◌, ◌≢◌, ℕ, ◌+◌, ◌<◌, ◌≤◌, ◌⊎◌, List, [], ◌∷◌, ◌++◌, length, flat_map, All}
use Rattle.aprs_io.specs.declared.input.InputEnd.{InputEnd}
use Rattle.aprs_io.specs.declared.input.InputEnd.TheVariants as how
use Rattle.aprs_log.specs.LineText.{IsPassed, IsWrongLine, Reports}
use Rattle.aprs_log.specs.Reception.{Received}
use Rattle.aprs_log.specs.Sizes.{most_line}
use Rattle.aprs_log.specs.declared.fault.LogCause.{LogCause}
use Rattle.aprs_log.specs.declared.fault.LogCause.TheVariants as why
use Rattle.aprs_log.specs.declared.fault.LogFault.{LogFault}

-- The text of these lines: each, with an LF after it.
abbrev pub text_of_lines : List (List ℕ) → List ℕ
text_of_lines lines = flat_map (λ line. line ++ 10 ∷ []) lines

-- No LF stands in these bytes.
abbrev pub HasNoLf : List ℕ → Type 0
HasNoLf bytes = All (λ b. b ≢ 10) bytes

-- The lines report these receptions, in order; every other line is passed over.
abbrev pub ReportAll : List (List ℕ) → List Received → Type 0
ReportAll [] S = S ≡ []
ReportAll (line ∷ lines) S = (IsPassed line × ReportAll lines S)
    ⊎ ((x : Received) × (T : List Received) × Reports line x × ReportAll lines T × (S ≡ x ∷ T))

-- The text is that of a log without a fault, to its end, and S are the receptions that its lines
-- report, in order.
pub record IsLogText (text : List ℕ) (ending : InputEnd) (S : List Received) : Type 0 where
  pub lines : List (List ℕ)
  pub text_is : text ≡ text_of_lines lines
  pub whole : ending ≡ how.End
  pub report : ReportAll lines S

-- What stands after the last LF is wrong for this cause: it is too long for a line; or it isn't too
-- long, and a read failed, or the input is over the limit, or the input ended inside a line.
abbrev pub IsWrongTail : List ℕ → InputEnd → LogCause → Type 0
IsWrongTail tail ending why.LongLine = most_line < length tail
IsWrongTail tail ending why.Read = (length tail ≤ most_line) × (ending ≡ how.Read)
IsWrongTail tail ending why.TooLong = (length tail ≤ most_line) × (ending ≡ how.TooLong)
IsWrongTail tail ending why.NoNewline = (length tail ≤ most_line) × (ending ≡ how.End) × (tail ≢ [])
IsWrongTail tail ending other = ⊥

-- The text begins with a line that is wrong for this cause; or it has no LF, and is wrong as what
-- stands after the last LF of a log.
abbrev pub BeginsWrong : List ℕ → InputEnd → LogCause → Type 0
BeginsWrong text ending cause = (HasNoLf text × IsWrongTail text ending cause)
    ⊎ ((line : List ℕ) × (more : List ℕ) × (text ≡ line ++ 10 ∷ more) × HasNoLf line
    × IsWrongLine line cause)

-- The log of which this text was got, with this ending, has this fault: after lines that have none,
-- what comes next is wrong. The fault's line is the one after these lines.
pub record HasLogFault (text : List ℕ) (ending : InputEnd) (fault : LogFault) : Type 0 where
  pub lines : List (List ℕ)
  pub rest : List ℕ
  pub text_is : text ≡ text_of_lines lines ++ rest
  pub before : (S : List Received) × ReportAll lines S
  pub number : fault.line ≡ length lines + 1
  pub wrong : BeginsWrong rest ending fault.cause
