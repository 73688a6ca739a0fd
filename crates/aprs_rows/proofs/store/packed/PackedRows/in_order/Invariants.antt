use Rattle.aprs_rows.proofs.Common.{◌≡◌, ◌++◌}
use Rattle.aprs_rows.proofs.store.packed.PackedRows.in_order.Given as goal

abbrev pub invariant-loop-row : goal.invariant-loop-row
invariant-loop-row g l = l.rows.items ++ l.row-iterator ≡ l.fn.self
