-- What is at fault in a text that isn't that of a book, and in which line.
use Rattle.std.specs.Prelude.{◌≡◌, ◌≢◌, ℕ, ◌+◌, ◌≤◌, ◌==◌, ◌⊎◌, Bool, false, true, List, [], ◌∷◌, ◌++◌, length, map, codes, Some}
use Rattle.std.specs.List.{starts_with}
use Rattle.aprs_ax25.specs.UiFrame.{IsUiFrame}
use Rattle.aprs_io.specs.declared.input.InputEnd.{InputEnd}
use Rattle.aprs_io.specs.declared.input.InputEnd.TheVariants as how
use Rattle.aprs_log.specs.LogText.{HasNoLf, text_of_lines}
use Rattle.aprs_log.specs.declared.moment_form.MomentForm.{MomentForm}
use Rattle.aprs_transmissions.specs.Gap.{millis_of}
use Rattle.aprs_transmissions.specs.Row.{Row}
use Rattle.aprs_rows.specs.Refusal.{refusal}
use Rattle.aprs_transmissions.specs.declared.row_cause.RowCause.{RowCause}
use Rattle.aprs_transmissions.specs.declared.row_cause.RowCause.TheVariants as row
use Rattle.aprs_bookfile.specs.Text.{row_line, end_line, lines_of, IsSpelled, IsBookRow, IsBookRows}
use Rattle.aprs_bookfile.specs.Version.{form_of, gap_of, header_of, IsVersion}
use Rattle.aprs_bookfile.specs.declared.fault.BookCause.{BookCause}
use Rattle.aprs_bookfile.specs.declared.fault.BookCause.TheVariants as why
use Rattle.aprs_bookfile.specs.declared.fault.BookFault.{BookFault}
use Rattle.aprs_bookfile.specs.declared.version.Version.{Version}

-- ---- what is wrong with a line after the lines of some rows

-- The line begins as a book's last line does.
abbrev pub is_end : List ℕ → Bool
is_end line = starts_with ◌==◌ line (codes "END")

-- The line spells a row that can't be added to these rows, for this reason.
pub record SpellsRefusedRow (gap : ℕ) (form : MomentForm) (rows : List Row) (line : List ℕ)
    (reason : RowCause) : Type 0 where
  pub row : Row
  pub is : IsBookRow form row
  pub spelled : line ≡ row_line form row
  pub refused : refusal gap rows row ≡ Some reason

-- The line spells a row but for its frame, whose bytes aren't a UI frame.
pub record HasNoFrame (form : MomentForm) (line : List ℕ) : Type 0 where
  pub row : Row
  pub is : IsSpelled form row
  pub spelled : line ≡ row_line form row
  pub refused : IsUiFrame row.greatest.frame → ⊥

-- After these rows the line is wrong for this cause: it begins as the last line and isn't that of
-- so many rows, or it spells no row, or one whose frame is none, or one that can't be added.
abbrev pub IsWrong : ℕ → MomentForm → List Row → List ℕ → BookCause → Type 0
IsWrong gap form rows line why.Ending = (is_end line ≡ true) × (line ≢ end_line (length rows))
IsWrong gap form rows line why.RowSyntax =
    (is_end line ≡ false) × ((x : Row) → IsSpelled form x → line ≢ row_line form x)
IsWrong gap form rows line why.Frame = HasNoFrame form line
IsWrong gap form rows line why.Order = SpellsRefusedRow gap form rows line row.Order
IsWrong gap form rows line why.Span = SpellsRefusedRow gap form rows line row.Span
IsWrong gap form rows line why.Near = SpellsRefusedRow gap form rows line row.Near
IsWrong gap form rows line why.Receivers = SpellsRefusedRow gap form rows line row.Receivers
IsWrong gap form rows line why.NotGreatest = SpellsRefusedRow gap form rows line row.NotGreatest
IsWrong gap form rows line why.Header = ⊥
IsWrong gap form rows line why.After = ⊥
IsWrong gap form rows line why.Read = ⊥
IsWrong gap form rows line why.TooLong = ⊥
IsWrong gap form rows line why.Memory = ⊥

-- ---- lines that are in order

-- The lines are the header of this version and those of these rows, which are a book in it.
pub record AreOfRows (v : Version) (rows : List Row) (lines : List (List ℕ)) : Type 0 where
  pub rows_are : IsBookRows v rows
  pub lines_are : lines ≡ header_of v ∷ map (row_line (form_of v)) rows

-- A book's text may go on after these lines: they are none, or a header and the lines of rows that
-- are a book.
abbrev pub BeginBook : List (List ℕ) → Type 0
BeginBook lines = (lines ≡ []) ⊎ ((v : Version) × (rows : List Row) × AreOfRows v rows lines)

-- The lines are all those of a book's text.
abbrev pub AreBook : List (List ℕ) → Type 0
AreBook lines = (v : Version) × (rows : List Row) × IsBookRows v rows × (lines ≡ lines_of v rows)

-- ---- what is wrong after them

-- The most bytes that may have come after those of the line that was being read when an allocation
-- failed.
abbrev pub most_ahead : ℕ
most_ahead = 16384

-- What follows a line begins with its LF.
abbrev pub EndsLine : List ℕ → Type 0
EndsLine more = (rest : List ℕ) × (more ≡ 10 ∷ rest)

-- The text stops in the line after these lines, or right after all lines of a book.
abbrev pub StopsIn : List (List ℕ) → List ℕ → List ℕ → Type 0
StopsIn lines line more = (more ≡ []) × (BeginBook lines ⊎ (AreBook lines × (line ≡ [])))

-- After these lines, which have no fault, `line` and `more` are wrong for this cause. `Header`:
-- `line`, with its LF, is the first and no header. `After`: something follows all lines of a book.
-- `Read`, `TooLong`: the text stops in the line after these lines, or right after all lines of a
-- book, since a read failed or the limit was passed. `Memory`: a book's text may go on after the
-- lines, and at most `most_ahead` bytes came after `line`. `Ending`: the input ended before a
-- book's last line did. `Ending` or a row's cause: `line`, with its LF, is wrong after the rows
-- (`IsWrong`).
abbrev pub IsWrongRest : List (List ℕ) → List ℕ → List ℕ → InputEnd → BookCause → Type 0
IsWrongRest lines line more ending why.Header =
    (lines ≡ []) × ((v : Version) → IsVersion v → line ≢ header_of v) × EndsLine more
IsWrongRest lines line more ending why.After = AreBook lines × (line ++ more ≢ [])
IsWrongRest lines line more ending why.Read = StopsIn lines line more × (ending ≡ how.Read)
IsWrongRest lines line more ending why.TooLong = StopsIn lines line more × (ending ≡ how.TooLong)
IsWrongRest lines line more ending why.Memory = BeginBook lines × (length more ≤ most_ahead)
IsWrongRest lines line more ending cause =
    ((cause ≡ why.Ending) × BeginBook lines × (more ≡ []) × (ending ≡ how.End))
    ⊎ ((v : Version) × (rows : List Row) × AreOfRows v rows lines × EndsLine more
    × IsWrong (millis_of (gap_of v)) (form_of v) rows line cause)

-- A book file of which this text was got, with this ending, has this fault: the text is some lines
-- that have no fault, and then `line`, which has no LF in it, and `more`, and these two are wrong.
-- The fault's line is the one after the lines that have no fault.
pub record HasBookFault (text : List ℕ) (ending : InputEnd) (fault : BookFault) : Type 0 where
  pub lines : List (List ℕ)
  pub line : List ℕ
  pub more : List ℕ
  pub text_is : text ≡ text_of_lines lines ++ (line ++ more)
  pub one : HasNoLf line
  pub number : fault.line ≡ length lines + 1
  pub wrong : IsWrongRest lines line more ending fault.cause
