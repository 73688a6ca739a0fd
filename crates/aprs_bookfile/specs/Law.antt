-- What holds of all texts of books.
use Rattle.std.specs.Prelude.{◌≡◌, ◌≢◌, ℕ, ◌^◌, ◌<◌, ◌≤◌, ◌⊎◌, ◌↔◌, List, [], ◌∷◌, ◌++◌, length, map, All, Option, Result, Ok, IfErr}
use Rattle.aprs_io.specs.Input.{most_input}
use Rattle.aprs_io.specs.declared.input.InputEnd.{InputEnd}
use Rattle.aprs_io.specs.declared.input.InputEnd.TheVariants as how
use Rattle.aprs_log.specs.LogText.{text_of_lines}
use Rattle.aprs_log.specs.Reception.{Received}
use Rattle.aprs_transmissions.specs.BookValue.{BookValue, Holds}
use Rattle.aprs_transmissions.specs.Row.{Row}
use Rattle.aprs_bookfile.specs.BookAnswers.{IsBookOrMemory, ReadsBook}
use Rattle.aprs_bookfile.specs.Fault.{ending_cause}
use Rattle.aprs_bookfile.specs.Text.{book_of_version, book_text, row_line, IsBookRow, IsBookRows, written_text, written_version}
use Rattle.aprs_bookfile.specs.TextFault.{HasBookFault}
use Rattle.aprs_bookfile.specs.Version.{form_of, gap_of, header_of, IsVersion}
use Rattle.aprs_bookfile.specs.declared.fault.BookCause.TheVariants as why
use Rattle.aprs_bookfile.specs.declared.fault.BookFault.{BookFault}
use Rattle.aprs_bookfile.specs.declared.version.Version.{Version}

-- Equal texts are of one version and of equal rows.
abbrev pub HaveOneText : Type 0
HaveOneText = (v w : Version) (a b : List Row) → IsBookRows v a → IsBookRows w b
    → book_text v a ≡ book_text w b → (v ≡ w) × (a ≡ b)

-- Books that are written as equal texts are equal.
abbrev pub TellBooksApart : Type 0
TellBooksApart = (a b : BookValue) → IsBookRows (written_version a) a.rows
    → IsBookRows (written_version b) b.rows → written_text a ≡ written_text b → a ≡ b

-- A fault in a prefix of a book's text, but Memory, only says how the input ended: Ending, Read or
-- TooLong. The last two may follow the whole text; at Ending the prefix isn't the whole text.
abbrev pub AreCutShort : Type 0
AreCutShort = (v : Version) (rows : List Row) → IsBookRows v rows → length rows < 2 ^ 64
    → (text more : List ℕ) (ending : InputEnd) (fault : BookFault) → text ++ more ≡ book_text v rows
    → HasBookFault text ending fault → fault.cause ≢ why.Memory
    → (fault.cause ≡ ending_cause ending) × (ending ≡ how.End → more ≢ [])

-- The header of a version and a part of the lines of a book's rows lack the last line: where the
-- input ends there, that is the fault.
abbrev pub LackAnEnd : Type 0
LackAnEnd = (v : Version) (rows : List Row) → IsBookRows v rows → (part rest : List ℕ)
    → text_of_lines (map (row_line (form_of v)) rows) ≡ part ++ rest
    → (line : ℕ) × HasBookFault ((header_of v ++ 10 ∷ []) ++ part) how.End
    (record { line = line; cause = why.Ending })

-- An input that is the text of a book gives that book, unless it is longer than the limit, a read
-- failed or an allocation failed. The limit is `most_input` at most.
abbrev pub AreReadBack : Type 0
AreReadBack = (v : Version) (rows : List Row) → IsBookRows v rows
    → (limit : ℕ) → limit ≤ most_input
    → length (book_text v rows) ≤ limit → (after : Option (List ℕ))
    → (answer : Result BookValue BookFault) → ReadsBook limit [] (book_text v rows) after answer
    → IfErr answer (λ fault. fault.cause ≢ why.Read)
    → IsBookOrMemory answer (book_of_version v rows)

-- A text has at most one fault but Memory, for each way of ending.
abbrev pub HaveOneBookFault : Type 0
HaveOneBookFault = (text : List ℕ) (ending : InputEnd) (f g : BookFault) → length text < 2 ^ 64
    → HasBookFault text ending f → f.cause ≢ why.Memory
    → HasBookFault text ending g → g.cause ≢ why.Memory → f ≡ g

-- The text is that of a book in some version, and the end came after it.
pub record IsBookText (text : List ℕ) (ending : InputEnd) : Type 0 where
  pub version : Version
  pub rows : List Row
  pub is : IsBookRows version rows
  pub text_is : text ≡ book_text version rows
  pub ended : ending ≡ how.End

-- A text that isn't the whole text of a book has a fault that isn't Memory.
abbrev pub HaveFaultOrBook : Type 0
HaveFaultOrBook = (text : List ℕ) (ending : InputEnd)
    → IsBookText text ending
    ⊎ ((fault : BookFault) × HasBookFault text ending fault × (fault.cause ≢ why.Memory))

-- A text that is the whole text of a book has no fault but Memory.
abbrev pub BooksAreFaultless : Type 0
BooksAreFaultless = (text : List ℕ) (ending : InputEnd) (fault : BookFault) → length text < 2 ^ 64
    → IsBookText text ending → HasBookFault text ending fault → fault.cause ≡ why.Memory

-- The text is that of the book of these receptions in some version, under its gap, and each row
-- can be spelled in it.
pub record IsTextOfSet (S : List Received) (text : List ℕ) : Type 0 where
  pub version : Version
  pub is : IsVersion version
  pub rows : List Row
  pub holds : Holds S (book_of_version version rows)
  pub each : All (IsBookRow (form_of version)) rows
  pub text_is : text ≡ book_text version rows

-- The whole texts of books are exactly the texts of sets' books.
abbrev pub AreOfSets : Type 0
AreOfSets = (text : List ℕ)
    → IsBookText text how.End ↔ ((S : List Received) × IsTextOfSet S text)

-- The text is that of the book's rows in some version of its gap, the book can be written too, and
-- that gives the same text exactly if it is of the version that is written.
pub record IsWrittenBack (book : BookValue) (text : List ℕ) : Type 0 where
  pub version : Version
  pub gap_is : book.gap ≡ gap_of version
  pub text_is : text ≡ book_text version book.rows
  pub written : IsBookRows (written_version book) book.rows
  pub same : (written_text book ≡ text) ↔ (version ≡ written_version book)

-- A book that was read of an input, with its head, is written back so.
abbrev pub AreWrittenBack : Type 0
AreWrittenBack = (limit : ℕ) (head input : List ℕ) (after : Option (List ℕ)) (book : BookValue)
    → ReadsBook limit head input after (Ok book) → IsWrittenBack book (head ++ input)
