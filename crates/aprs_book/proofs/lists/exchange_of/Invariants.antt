use Rattle.aprs_summary.specs.Exchange.{IsExchangeOf}
use Rattle.aprs_summary.proofs.Collected.{SoFar}
use Rattle.aprs_book.proofs.lists.exchange_of.Given as goal

abbrev pub invariant-loop-row : goal.invariant-loop-row
invariant-loop-row g l = SoFar (λ done. IsExchangeOf done l.exchange) l.fn.rows l.row-iterator
