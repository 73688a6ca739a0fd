use Rattle.aprs_bookfile.proofs.Written.{PutSoFar}
use Rattle.aprs_booktext.proofs.write.put_rows.Given as goal

abbrev pub invariant-loop-row : goal.invariant-loop-row
invariant-loop-row g l =
    PutSoFar g.W.Write.contents l.initial.out l.out l.fn.book.rows l.row-iterator
