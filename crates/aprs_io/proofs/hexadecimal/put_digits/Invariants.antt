use Rattle.aprs_io.proofs.Common.{◌≡◌, ◌<◌, ℕ, length}
use Rattle.aprs_io.specs.Hexadecimal.{HoldsDigit, HoldsTwice}
use Rattle.aprs_io.proofs.hexadecimal.put_digits.Given as goal

-- the bytes so far, each twice
abbrev pub invariant-bytes : goal.invariant-bytes
invariant-bytes l = record {
  len : length l.twice ≡ 32;
  twice : (k : ℕ) → k < l.j → HoldsTwice l.bytes l.twice k;
}

-- the digits so far
abbrev pub invariant-digits : goal.invariant-digits
invariant-digits l = (m : ℕ) → m < l.k → HoldsDigit l.twice l.digits m
