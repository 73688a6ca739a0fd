use Rattle.aprs_rows.proofs.Common.{◌≡◌, take}
use Rattle.aprs_rows.proofs.store.packed.PackedRows.repack.Given as goal

abbrev pub invariant-loop-row : goal.invariant-loop-row
invariant-loop-row g l = l.packed ≡ take l.row-index l.fn.rows
