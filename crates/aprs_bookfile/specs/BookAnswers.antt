-- What is answered where a book is read of an input.
use Rattle.std.specs.Prelude.{◌≡◌, ℕ, ◌≤◌, List, ◌++◌, length, Option, Result, Ok, Err}
use Rattle.aprs_io.specs.Input.{Gets}
use Rattle.aprs_io.specs.declared.input.InputEnd.{InputEnd}
use Rattle.aprs_io.specs.declared.input.InputEnd.TheVariants as how
use Rattle.aprs_transmissions.specs.BookValue.{BookValue}
use Rattle.aprs_transmissions.specs.Row.{Row}
use Rattle.aprs_bookfile.specs.Text.{book_of_version, book_text, IsBookRows}
use Rattle.aprs_bookfile.specs.TextFault.{HasBookFault}
use Rattle.aprs_bookfile.specs.Version.{gap_of}
use Rattle.aprs_bookfile.specs.declared.fault.BookCause.TheVariants as why
use Rattle.aprs_bookfile.specs.declared.fault.BookFault.{BookFault}
use Rattle.aprs_bookfile.specs.declared.version.Version.{Version}

-- A book is the answer where the text is that of its rows in some version of its gap, and the end
-- came after it; a fault is where the text has it.
abbrev pub IsAnswerFor : Result BookValue BookFault → List ℕ → InputEnd → Type 0
IsAnswerFor (Ok book) text ending = (version : Version) × (book.gap ≡ gap_of version)
    × (text ≡ book_text version book.rows) × IsBookRows version book.rows × (ending ≡ how.End)
IsAnswerFor (Err fault) text ending = HasBookFault text ending fault

-- Of the input some bytes were got after its head, at most `limit` with it, and the answer is that
-- for head and bytes.
pub record ReadsBook (limit : ℕ) (head input : List ℕ) (after : Option (List ℕ))
    (answer : Result BookValue BookFault) : Type 0 where
  pub got : List ℕ
  pub ending : InputEnd
  pub gets : Gets limit (head ++ input) after (head ++ got) ending
  pub reads : IsAnswerFor answer (head ++ got) ending

-- The answer is this book, or an allocation failed.
abbrev pub IsBookOrMemory : Result BookValue BookFault → BookValue → Type 0
IsBookOrMemory (Ok found) book = found ≡ book
IsBookOrMemory (Err fault) book = fault.cause ≡ why.Memory

-- The text of a book in any version is read, where it is short enough, unless a read or an
-- allocation failed.
abbrev pub AcceptsBook : ℕ → List ℕ → Result BookValue BookFault → Type 0 → Type 0
AcceptsBook limit text answer Failed = (version : Version) (rows : List Row)
    → IsBookRows version rows → text ≡ book_text version rows → length text ≤ limit
    → (Failed → ⊥) → IsBookOrMemory answer (book_of_version version rows)
