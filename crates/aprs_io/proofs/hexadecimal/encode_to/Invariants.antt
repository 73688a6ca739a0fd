use Rattle.aprs_io.proofs.Common.{◌*◌, ◌<◌, ℕ, length}
use Rattle.aprs_io.specs.Hexadecimal.{HoldsDigits}
use Rattle.aprs_io.proofs.hexadecimal.encode_to.Given as goal

-- the digits of the blocks so far
abbrev pub invariant-blocks-2 : goal.invariant-blocks-2
invariant-blocks-2 l =
    (k : ℕ) → k < 16 * l.i → k < length l.bytes → HoldsDigits l.bytes l.digits k
