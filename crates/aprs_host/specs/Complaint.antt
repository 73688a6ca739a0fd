-- What a program complains of, the text of it, and the exit status.
use Rattle.std.specs.Prelude.{ℕ, List, [], ◌∷◌, ◌++◌, codes}
use Rattle.std.specs.Fmt.{decimal}
use Rattle.aprs_log.specs.Fault.{log_cause_name}
use Rattle.aprs_log.specs.declared.fault.LogCause.{LogCause}
use Rattle.aprs_log.specs.declared.fault.LogCause.TheVariants as cause
use Rattle.aprs_bookfile.specs.Fault.{book_cause_name}
use Rattle.aprs_bookfile.specs.declared.fault.BookCause.{BookCause}
use Rattle.aprs_bookfile.specs.declared.fault.BookCause.TheVariants as book
use Rattle.aprs_runs.specs.declared.fault.InputFault.TheVariants.{Log, Book, Memory, OtherGap, Narrower}
use Rattle.aprs_runs.specs.declared.fault.RunFault.{RunFault}
use Rattle.aprs_runs.specs.declared.fault.RunFault.TheVariants.{Input, Write}
use Rattle.aprs_runs.specs.declared.fault.RunFault.TheVariants as run
use Rattle.aprs_host.specs.declared.complaint.Complaint.{Complaint}
use Rattle.aprs_host.specs.declared.complaint.Complaint.TheVariants as why

-- The place of an input that has no path.
abbrev pub standard_input : List ℕ
standard_input = codes "standard input"

-- The words of a complaint: what its line says after who speaks, a colon and a space.
abbrev pub words_of : Complaint → List ℕ
words_of why.NotUtf8 = codes "invalid UTF-8 was detected in one or more arguments"
words_of why.BadCaptureOptions = codes "bad capture options"
words_of (why.CannotOpen path) = path.now ++ codes ": cannot open"
words_of (why.IsOutput place) = place.now ++ codes ": input is output"
words_of (why.Line place line cause) =
    place.now ++ (codes ": line " ++ (decimal line ++ (codes ": " ++ cause.now)))
words_of (why.OtherGap place) = place.now ++ codes ": other gap"
words_of (why.Narrower place) = place.now ++ codes ": narrower"
words_of why.CannotWrite = codes "cannot write"
words_of why.OutOfMemory = codes "out of memory"

-- Who speaks: the program by its name, or `error` where an argument isn't UTF-8.
abbrev pub speaker : List ℕ → Complaint → List ℕ
speaker program why.NotUtf8 = codes "error"
speaker program other = program

-- Who speaks, a colon and a space, the words, and LF.
abbrev pub complaint_text : List ℕ → Complaint → List ℕ
complaint_text program complaint =
    speaker program complaint ++ (codes ": " ++ (words_of complaint ++ 10 ∷ []))

-- The exit status: 1 for an input, 2 for the arguments, 3 for the output, 4 for memory.
abbrev pub status : Complaint → ℕ
status why.NotUtf8 = 2
status why.BadCaptureOptions = 2
status why.CannotWrite = 3
status why.OutOfMemory = 4
status other = 1

-- ---- a run's fault

-- The words for a line of an input.
abbrev pub line_words : List ℕ → ℕ → List ℕ → List ℕ
line_words place line cause =
    place ++ (codes ": line " ++ (decimal line ++ (codes ": " ++ cause)))

-- The words for a log's fault. At `Memory` they name neither the place nor the line.
abbrev pub log_words : List ℕ → ℕ → LogCause → List ℕ
log_words place line cause.Memory = codes "out of memory"
log_words place line other = line_words place line (log_cause_name other)

-- The words for a book file's fault. At `Memory` they name neither the place nor the line.
abbrev pub book_words : List ℕ → ℕ → BookCause → List ℕ
book_words place line book.Memory = codes "out of memory"
book_words place line other = line_words place line (book_cause_name other)

-- The words for a run's fault, where `place` is the name of the input at fault. They don't name it
-- where memory or the output was refused.
abbrev pub run_words : List ℕ → RunFault → List ℕ
run_words place (Input index (Log fault)) = log_words place fault.line fault.cause
run_words place (Input index (Book fault)) = book_words place fault.line fault.cause
run_words place (Input index Memory) = codes "out of memory"
run_words place (Input index OtherGap) = place ++ codes ": other gap"
run_words place (Input index Narrower) = place ++ codes ": narrower"
run_words place Write = codes "cannot write"
run_words place run.Memory = codes "out of memory"
