-- The altitude of a compressed position that is of a GGA sentence (APRS Protocol Reference 1.0.1,
-- chapter 9).
use Rattle.std.specs.Prelude.{ℕ, ◌+◌, ◌*◌, ◌-◌, ◌/◌, ◌^◌, Bool, true, ◌==◌, ◌&&◌, nat_le, nat_lt, List, [], ◌∷◌, Option, slice_index, suc}
use Rattle.aprs_report.specs.Reader.{value_when}
use Rattle.aprs_details.specs.Decimal.{nearest}
use Rattle.aprs_details.specs.Compressed.{is_base91, is_gga}

-- Where the position is of a GGA sentence, and c and s are digits of base 91, these are an
-- altitude.
abbrev pub has_altitude : List ℕ → Bool
has_altitude cst = is_base91 (slice_index cst 0) && is_base91 (slice_index cst 1)
    && is_gga (slice_index cst 2)

-- The number cs of c and s, two digits of base 91.
abbrev pub number_of_cs : List ℕ → ℕ
number_of_cs cst = (slice_index cst 0 - 33) * 91 + (slice_index cst 1 - 33)

-- The altitude of the number cs in feet: 1.002 to the power of cs, rounded to the nearest.
unfoldable pub feet_of_cs : ℕ → ℕ
feet_of_cs cs = nearest (1002 ^ cs) (1000 ^ cs)

-- The altitude in feet, where c and s are an altitude.
abbrev pub feet_of_cst : List ℕ → Option ℕ
feet_of_cst cst = value_when (has_altitude cst) (feet_of_cs (number_of_cs cst))

-- ---- as it is computed

-- The table has p / q, and this times up / down again and again, each rounded down.
abbrev pub has_powers : (p q up down : ℕ) → List ℕ → Bool
has_powers p q up down [] = true
has_powers p q up down (x ∷ xs) =
    nat_le (x * q) p && nat_lt p (suc x * q) && has_powers (p * up) (q * down) up down xs

-- So many parts, of which 2^64 make 1, rounded to the nearest whole number.
abbrev pub rounded : ℕ → ℕ
rounded parts = (parts + 9223372036854775808) / 18446744073709551616

-- The product of two powers is below 2^95. What was cut off of the powers doesn't change it once it
-- is rounded.
abbrev pub is_settled : ℕ → ℕ → Bool
is_settled x y = nat_lt (x * y) 39614081257132168796771975168
    && rounded (x * y) == rounded (x * y + x + y)

-- The product of x and each power of the table is settled, as `is_settled` says.
abbrev pub is_settled_by : ℕ → List ℕ → Bool
is_settled_by x [] = true
is_settled_by x (y ∷ ys) = is_settled x y && is_settled_by x ys

-- The product of each power of one table and each of the other is settled.
abbrev pub are_settled : List ℕ → List ℕ → Bool
are_settled [] ys = true
are_settled (x ∷ xs) ys = is_settled_by x ys && are_settled xs ys
