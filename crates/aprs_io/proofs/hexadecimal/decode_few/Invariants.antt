use Rattle.aprs_io.proofs.Common.{◌<◌, ℕ}
use Rattle.aprs_io.specs.Hexadecimal.{HoldsDigits}
use Rattle.aprs_io.proofs.hexadecimal.decode_few.Given as goal

-- the bytes so far
abbrev pub invariant-bytes : goal.invariant-bytes
invariant-bytes l = (k : ℕ) → k < l.i → HoldsDigits l.out l.text k
