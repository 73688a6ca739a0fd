use Rattle.aprs_details.proofs.Common.{◌≡◌, take}
use Rattle.aprs_details.specs.Nmea.{checksum_of}
use Rattle.aprs_details.proofs.nmea.checksum.Given as goal

abbrev pub invariant-loop-byte : goal.invariant-loop-byte
invariant-loop-byte l = l.sum ≡ checksum_of (take l.byte-index l.bytes)
