-- The halves of the globe that the letters of a position name (APRS Protocol Reference 1.0.1,
-- chapters 6 and 10). An angle of 0 has a half too, which its number doesn't show.
use Rattle.std.specs.Prelude.{◌≡◌, ℕ, ℤ, ◌-◌, Bool, ◌==◌, nat_le, nat_lt, List, length, slice_index}
use Rattle.aprs_io.specs.Octet.{octet}
use Rattle.aprs_report.specs.Coordinate.{with_sign}
use Rattle.aprs_details.specs.declared.halves.Halves.{Halves}

-- The byte that stands so many bytes before the comment of a report.
abbrev pub before_comment : (info comment : List ℕ) → ℕ → ℕ
before_comment info comment n = slice_index info (length info - length comment - n)

-- The halves of the plain position of a report. It stands right before the comment, as in
-- DDMM.hhN/DDDMM.hhE>: N or S is the twelfth byte before it, and E or W the second.
abbrev pub halves_of : (info comment : List ℕ) → Halves
halves_of info comment = record {
  is_south = before_comment info comment 12 == octet "S";
  is_west = before_comment info comment 2 == octet "W";
}

-- The halves of a Mic-E position, by the characters of its destination: from P on the fourth is
-- north, and the sixth is west.
abbrev pub mic_e_halves_of : (characters : List ℕ) → Halves
mic_e_halves_of characters = record {
  is_south = nat_lt (slice_index characters 3) (octet "P");
  is_west = nat_le (octet "P") (slice_index characters 5);
}

-- The number is so many parts in this half of the globe.
pub record HasSign (is_negative : Bool) (angle : ℤ) : Type 0 where
  pub parts : ℕ
  pub value : angle ≡ with_sign is_negative parts
