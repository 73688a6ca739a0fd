use Rattle.aprs_io.proofs.Common.{◌≡◌, ◌*◌, ◌++◌, take, drop, encode_lower}
use Rattle.aprs_io.proofs.hexadecimal.encode_few.Given as goal

-- the digits so far, and those of the bytes that are left
abbrev pub invariant-bytes : goal.invariant-bytes
invariant-bytes l =
    take (2 * l.i) l.digits ++ encode_lower (drop l.i l.bytes) ≡ encode_lower l.bytes
