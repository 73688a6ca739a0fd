use Rattle.std.proofs.Common.{◌≡◌, ◌+◌, ◌*◌, ◌≤◌, ◌++◌, length, map, take}
use Rattle.std.specs.List.{flat_map}
use Rattle.aprs_ax25.specs.FrameFault.{parts_of}
use Rattle.aprs_ax25.specs.FrameRef.{frame_bytes}
use Rattle.aprs_ax25.specs.Hop.{hop_of, hop_text}
use Rattle.aprs_ax25.proofs.hops.push_hops_text.Given as goal

abbrev pub invariant-loop-i : goal.invariant-loop-i
invariant-loop-i g l = record {
  text : l.out.items ≡ l.initial.out.items ++ flat_map hop_text
      (take l.i (map hop_of (parts_of (frame_bytes l.frame)).digipeaters));
  most : length l.out.items ≤ length l.initial.out.items + 11 * l.i;
}
