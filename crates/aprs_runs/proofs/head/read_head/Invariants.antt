use Rattle.aprs_runs.proofs.Common.{◌≡◌, ◌≤◌, ◌-◌, length, false, list_any, Consumes, Calls, Going, device_of, is_lf}
use Rattle.aprs_runs.proofs.head.read_head.Given as goal

abbrev pub invariant-loop-r : goal.invariant-loop-r
invariant-loop-r g l = record {
  took : Consumes (g.R.Read.remaining (device_of l.initial.r))
      (g.R.Read.remaining (device_of l.r)) l.bytes.items;
  few : length l.bytes.items ≤ l.limit;
  most : length l.bytes.items ≤ 8;
  one : list_any is_lf l.bytes.items ≡ false;
  calls : Calls Going l.initial.r l.r;
}

abbrev pub decreases-loop-r : goal.decreases-loop-r
decreases-loop-r g l = 8 - length l.bytes.items
