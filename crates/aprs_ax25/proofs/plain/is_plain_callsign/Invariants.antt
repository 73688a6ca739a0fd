use Rattle.std.proofs.Common.{◌≡◌, take, drop, true, slice_index}
use Rattle.aprs_ax25.specs.Plain.{is_callsign_octet, characters_then_spaces}
use Rattle.aprs_ax25.proofs.plain.is_plain_callsign.Given as goal

abbrev pub invariant-loop-octet : goal.invariant-loop-octet
invariant-loop-octet l = record {
  first : l.is_fine ≡ true → is_callsign_octet (slice_index l.octets 0) ≡ true;
  others : l.is_fine ≡ true
      → characters_then_spaces l.after_character (drop l.octet-index (take 6 l.octets)) ≡ true
      → characters_then_spaces true (take 6 l.octets) ≡ true;
}
