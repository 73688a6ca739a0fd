use Rattle.aprs_book.proofs.Common.{keys_of, call_cmp}
use Rattle.std.specs.List.Sorted.{IsStrictlySortedBy}
use Rattle.aprs_summary.specs.StationRows.{AreTallies}
use Rattle.aprs_summary.proofs.Collected.{SoFar}
use Rattle.aprs_book.proofs.lists.tallies.Given as goal

abbrev pub invariant-loop-row : goal.invariant-loop-row
invariant-loop-row g l = record {
  counted : SoFar (λ done. AreTallies done l.tallies) l.fn.rows l.row-iterator;
  sorted : IsStrictlySortedBy call_cmp (keys_of l.tallies);
}
