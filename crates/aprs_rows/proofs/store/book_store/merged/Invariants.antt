use Rattle.aprs_rows.proofs.Common.{◌≡◌, ◌-◌, min, take}
use Rattle.std.specs.Prelude.{◌^◌}
use Rattle.aprs_rows.specs.BookStore.{all_rows}
use Rattle.aprs_rows.specs.Merger.{all_ahead, AreRuns, HaveRows}
use Rattle.aprs_rows.specs.Packed.{room_of}
use Rattle.aprs_rows.proofs.store.book_store.merged.Given as goal

abbrev pub invariant-loop-packed : goal.invariant-loop-packed
invariant-loop-packed g l = record {
  rows : all_ahead l.fronts.items ≡ all_rows (take l.packed-index l.fn.sorted) l.fn.chunk;
  runs : AreRuns l.fronts.items;
  have : HaveRows l.fronts.items;
  room : l.room ≡ min (room_of (all_ahead l.fronts.items)) (2 ^ 64 - 1);
}
