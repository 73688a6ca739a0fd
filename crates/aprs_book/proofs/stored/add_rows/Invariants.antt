use Rattle.aprs_book.proofs.Common.{◌≡◌, ◌++◌, AreSoundRows}
use Rattle.aprs_book.proofs.stored.add_rows.Given as goal

abbrev pub invariant-loop-row : goal.invariant-loop-row
invariant-loop-row g l = record {
  put : l.packed ++ l.row-iterator ≡ l.fn.rows;
  sound : AreSoundRows l.row-iterator;
}
