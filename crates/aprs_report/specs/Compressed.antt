-- The numbers of a compressed position (APRS Protocol Reference 1.0.1, chapter 9).
use Rattle.std.specs.Prelude.{◌≡◌, ℕ, ℤ, pos, ◌≤◌, List, length}
use Rattle.aprs_report.specs.Numeral.{IsNumeral}

-- How many parts a degree of latitude has.
abbrev pub latitude_parts : ℤ
latitude_parts = pos 380926

-- How many parts a degree of longitude has.
abbrev pub longitude_parts : ℤ
longitude_parts = pos 190463

-- The number of the equator and of the meridian of Greenwich: 90 degrees of latitude and 180 of
-- longitude.
abbrev pub middle : ℤ
middle = pos 34283340

-- The greatest number: 180 degrees of latitude and 360 of longitude.
abbrev pub greatest_base91 : ℕ
greatest_base91 = 68566680

-- The text is this number in four digits of base 91, from ! on.
pub record IsBase91 (n : ℕ) (text : List ℕ) : Type 0 where
  pub four : length text ≡ 4
  pub numeral : IsNumeral 91 33 n text
  pub within : n ≤ greatest_base91
