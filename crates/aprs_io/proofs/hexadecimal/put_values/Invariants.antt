use Rattle.aprs_io.proofs.Common.{◌≡◌, ◌<◌, ℕ, slice_index, true, lower_digits}
use Rattle.aprs_io.specs.Hexadecimal.{HoldsValue}
use Rattle.aprs_io.proofs.hexadecimal.put_values.Given as goal

-- as long as all are digits, the values so far are theirs
abbrev pub invariant-digits : goal.invariant-digits
invariant-digits l = record {
  value : l.most < 16 → (k : ℕ) → k < l.j → HoldsValue l.digits l.values k;
  lower : l.lower ≡ true → l.most < 16 → (k : ℕ) → k < l.j
      → slice_index l.digits k ≡ slice_index lower_digits (slice_index l.values k);
}
