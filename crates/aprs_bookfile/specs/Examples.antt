-- Texts that aren't a book's, for examples.
use Rattle.std.specs.Prelude.{ℕ, List, [], ◌∷◌, ◌++◌, codes}
use Rattle.aprs_log.specs.LogText.{text_of_lines}
use Rattle.aprs_bookfile.specs.declared.fault.BookCause.{BookCause}
use Rattle.aprs_bookfile.specs.declared.fault.BookFault.{BookFault}

-- A fault of this line, for this cause.
abbrev pub fault_in : ℕ → BookCause → BookFault
fault_in line cause = record { line = line; cause = cause }

-- No row, and a last line for one.
abbrev pub miscounted_text : List ℕ
miscounted_text = text_of_lines (codes "APRSBOOK 2" ∷ codes "END 1" ∷ [])

-- A header, and what begins the last line.
abbrev pub unfinished_text : List ℕ
unfinished_text = codes "APRSBOOK 2" ++ 10 ∷ codes "EN"

-- The fields of a row after its moments.
abbrev pub other_fields : List ℕ
other_fields = codes " RX1 RX1 82a0a4a64040e09c60868298986f03f03e4869"

-- Two rows of one key: the second begins and ends before the first does, and ends before it begins.
abbrev pub disordered_text : List ℕ
disordered_text = text_of_lines (codes "APRSBOOK 2"
    ∷ (codes "T 1970-01-01T00:00:03.000Z 1970-01-01T00:00:03.000Z" ++ other_fields)
    ∷ (codes "T 1970-01-01T00:00:02.000Z 1970-01-01T00:00:01.000Z" ++ other_fields) ∷ [])
