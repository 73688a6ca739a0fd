use Rattle.std.proofs.Common.{◌≡◌, ◌+◌, ◌*◌, ◌++◌, length, map, take, drop}
use Rattle.std.specs.List.{AllByRecursion}
use Rattle.aprs_ax25.specs.Address.{IsAddress}
use Rattle.aprs_ax25.specs.Making.{hop_address}
use Rattle.aprs_ax25.proofs.Making.{hops_field}
use Rattle.aprs_ax25.proofs.frame.push_hops.Given as goal

abbrev pub invariant-loop-i : goal.invariant-loop-i
invariant-loop-i l = record {
  room : length l.out.items ≡ length l.initial.out.items + 7 * l.i;
  field : l.out.items ++ hops_field (drop l.i l.hops) ≡ l.initial.out.items ++ hops_field l.hops;
  each : AllByRecursion IsAddress (map hop_address (take l.i l.hops));
}
