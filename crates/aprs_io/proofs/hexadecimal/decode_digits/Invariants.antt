use Rattle.aprs_io.proofs.Common.{◌≡◌, ◌*◌, ◌<◌, ℕ, length, true}
use Rattle.aprs_io.specs.Hexadecimal.{HoldsByte, HoldsDigits}
use Rattle.aprs_io.proofs.hexadecimal.decode_digits.Given as goal

-- the bytes of the blocks so far
abbrev pub invariant-blocks-2 : goal.invariant-blocks-2
invariant-blocks-2 l = record {
  bytes : (k : ℕ) → k < 16 * l.i → k < length l.out → HoldsByte l.text l.out k;
  lower : l.lower ≡ true → (k : ℕ) → k < 16 * l.i → k < length l.out
      → HoldsDigits l.out l.text k;
}
