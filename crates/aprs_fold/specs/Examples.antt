-- Ranges, rows and devices that the worked examples are about, and what these unfold.
use Rattle.std.specs.Prelude.{ℕ, List, [], ◌∷◌, ◌++◌, codes, None, Some}
use Rattle.aprs_io.specs.declared.device.Counted.{Counted}
use Rattle.aprs_transmissions.specs.Examples.{example_row, hi_frame, n0call, of_other, reception_at, rx1}
unfoldable pub use Rattle.aprs_transmissions.specs.Key.{key_cmp, key_of}
use Rattle.aprs_transmissions.specs.Row.{Row}
use Rattle.aprs_fold.specs.declared.range.SourceRange.{SourceRange}

-- From N0CALL-2 until N0CALL-10.
abbrev pub two_until_ten : SourceRange
two_until_ten = record { from = Some (n0call 2); until = Some (n0call 10) }

-- From N0CALL-8 on.
abbrev pub from_eight : SourceRange
from_eight = record { from = Some (n0call 8); until = None }

-- Until N0CALL-8.
abbrev pub until_eight : SourceRange
until_eight = record { from = None; until = Some (n0call 8) }

-- Transmissions of N0CALL-7 and of N0CALL-8.
abbrev pub of_seven : Row
of_seven = example_row 0 (rx1 ∷ []) (reception_at 0 rx1 hi_frame)

abbrev pub of_eight : Row
of_eight = example_row 0 (rx1 ∷ []) (reception_at 0 rx1 of_other)

-- A device that has these bytes, and was never called.
abbrev pub uncalled : List ℕ → Counted (List ℕ)
uncalled bytes = record { device = bytes; failed = 0; answered = 0; ended = 0 }

-- What begins as a book file of the gap 31.
abbrev pub begun_under_31 : List ℕ
begun_under_31 = codes "APRSBOOK 3 31" ++ 10 ∷ codes "T"
