use Rattle.std.proofs.Common.{◌≡◌, true, take, slice_index}
use Rattle.aprs_ax25.specs.Plain.{is_callsign_octet}
use Rattle.aprs_ax25.proofs.Plains.{Follows}
use Rattle.aprs_ax25.proofs.plain.are_plain_callsigns.Given as goal

abbrev pub invariant-loop-i : goal.invariant-loop-i
invariant-loop-i l = record {
  first : l.are_fine ≡ true → is_callsign_octet (slice_index (take 17 l.octets) 0) ≡ true;
  others : l.are_fine ≡ true → Follows (take 17 l.octets) l.i;
}
