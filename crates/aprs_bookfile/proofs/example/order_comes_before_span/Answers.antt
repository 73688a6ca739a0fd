use Rattle.aprs_bookfile.proofs.Worked.{out_of_order, no_span}
use Rattle.aprs_bookfile.proofs.example.order_comes_before_span.Goals as goal

pub returns-clause-order : goal.returns-clause-order
returns-clause-order c = out_of_order

pub returns-clause-misses_span : goal.returns-clause-misses_span
returns-clause-misses_span c = no_span
