use Rattle.aprs_bookfile.proofs.Common.{◌≡◌, ◌+◌, length}
use Rattle.aprs_bookfile.proofs.Written.{PutSoFar}
use Rattle.aprs_bookfile.proofs.write_book_rows.put_text.Given as goal

abbrev pub invariant-loop-row : goal.invariant-loop-row
invariant-loop-row g l = record {
  put : PutSoFar g.W.Write.contents l.initial.out l.out l.fn.rows.rows l.row-iterator.rows;
  left : l.count + length l.row-iterator.rows ≡ length l.fn.rows.rows;
}
