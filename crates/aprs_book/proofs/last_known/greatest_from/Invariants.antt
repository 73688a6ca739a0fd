use Rattle.aprs_book.proofs.Common.{◌≡◌, None, map, option_copied, known_of}
use Rattle.aprs_summary.specs.Known.{greatest_of}
use Rattle.aprs_summary.specs.Reports.{has_source}
use Rattle.aprs_book.proofs.last_known.greatest_from.Given as goal

abbrev pub invariant-loop-row : goal.invariant-loop-row
invariant-loop-row g l =
    known_of (has_source l.station) (option_copied l.known) (map greatest_of l.row-iterator)
    ≡ known_of (has_source l.station) None (map greatest_of l.fn.rows)
