use Rattle.aprs_rows.proofs.Common.{◌≤◌, IsGap, millis_of, []}
use Rattle.std.specs.Prelude.{◌≢◌}
use Rattle.aprs_rows.specs.BookRows.{IsOpen}
use Rattle.aprs_rows.specs.Packed.{room_of}
use Rattle.aprs_rows.proofs.store.book_rows.BookRows.take.Given as goal

abbrev pub invariant-loop-row : goal.invariant-loop-row
invariant-loop-row g l = record {
  range : IsGap l.self-inside.gap;
  is_open : IsOpen (millis_of l.self-inside.gap) l.first l.greatest l.self-inside.names.names
      l.self-inside.merger l.fn.self.rows;
  some : l.self-inside.names.names ≢ [];
  fits : room_of l.self-inside.merger ≤ l.self-inside.names.left;
}

abbrev pub decreases-loop-row : goal.decreases-loop-row
decreases-loop-row g l = room_of l.self-inside.merger
