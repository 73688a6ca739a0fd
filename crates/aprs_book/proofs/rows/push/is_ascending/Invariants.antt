use Rattle.aprs_book.proofs.Common.{◌≡◌, length, is_ascending}
use Rattle.aprs_book.proofs.rows.push.is_ascending.Given as goal

abbrev pub invariant-loop-rest : goal.invariant-loop-rest
invariant-loop-rest l = is_ascending l.rest ≡ is_ascending l.names

abbrev pub decreases-loop-rest : goal.decreases-loop-rest
decreases-loop-rest l = length l.rest
