use Rattle.aprs_io.proofs.Common.{◌≡◌, ◌<◌, ◌+◌, ◌*◌, ℕ, slice_index}
use Rattle.aprs_io.specs.Hexadecimal.{byte_of}
use Rattle.aprs_io.proofs.hexadecimal.put_bytes.Given as goal

-- the bytes so far
abbrev pub invariant-bytes : goal.invariant-bytes
invariant-bytes l =
    (k : ℕ) → k < l.j → slice_index l.out k
    ≡ byte_of (slice_index l.values (2 * k)) (slice_index l.values (2 * k + 1))
