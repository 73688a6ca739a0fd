use Rattle.aprs_bookfile.proofs.Common.{length}
use Rattle.aprs_bookfile.specs.Lines.{pieces}
use Rattle.aprs_bookfile.proofs.Spellings.{NamesFirst}
use Rattle.aprs_bookfile.proofs.row_line.are_names.Given as goal

abbrev pub invariant-loop-piece : goal.invariant-loop-piece
invariant-loop-piece l = NamesFirst (pieces 44 l.field) (pieces 44 l.rest)

abbrev pub decreases-loop-piece : goal.decreases-loop-piece
decreases-loop-piece l = length l.rest
