use Rattle.aprs_book.proofs.Common.{◌≡◌, length}
use Rattle.aprs_summary.specs.Reports.{without_spaces}
use Rattle.aprs_book.proofs.last_known.without_spaces.Given as goal

abbrev pub invariant-loop-rest : goal.invariant-loop-rest
invariant-loop-rest l = without_spaces l.rest ≡ without_spaces l.name

abbrev pub decreases-loop-rest : goal.decreases-loop-rest
decreases-loop-rest l = length l.rest
