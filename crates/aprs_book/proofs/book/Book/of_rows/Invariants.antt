use Rattle.aprs_book.proofs.Common.{◌≡◌, ◌++◌}
use Rattle.aprs_summary.specs.Notes.{AreNotesOf}
use Rattle.aprs_book.proofs.book.Book.of_rows.Given as goal

abbrev pub invariant-loop-row : goal.invariant-loop-row
invariant-loop-row g l = record {
  rows : l.kept ++ l.row-iterator.rows ≡ l.fn.rows.rows;
  notes : AreNotesOf l.kept l.notes;
}
