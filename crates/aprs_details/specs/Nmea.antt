-- The fix that a sentence of a GPS receiver tells (APRS Protocol Reference 1.0.1, chapter 6; NMEA
-- 0183 version 2.0): GGA, GLL and RMC.
use Rattle.std.specs.Prelude.{ℕ, ℤ, ◌+◌, ◌*◌, ◌-◌, ◌^◌, Bool, false, true, ◌==◌, ◌&&◌, nat_le, nat_lt, if◌then◌else◌, List, [], ◌∷◌, length, slice_index, Option, None, Some, codes}
use Rattle.std.specs.Int.Bits.{bit_xor}
use Rattle.std.specs.List.{fold}
use Rattle.std.specs.Str.{bytes_eq}
use Rattle.hex.specs.Hex.{hex_digit_value}
use Rattle.aprs_io.specs.Cut.{Cut, cut_at}
use Rattle.aprs_io.specs.Octet.{octet}
use Rattle.aprs_report.specs.Coordinate.{with_sign}
use Rattle.aprs_report.specs.Reader.{◌>>=◌, value_when, chunk_of, byte_where, numeral_of}
use Rattle.aprs_details.specs.declared.nmea.Fix.{Fix}
use Rattle.aprs_details.specs.Decimal.{nearest}
use Rattle.aprs_details.specs.Extension.{course_of}
use Rattle.aprs_details.specs.ThirdParty.{cut_or_all}
use Rattle.aprs_details.specs.Value.{without_minus}

-- ---- numbers

-- The number of one to six digits.
abbrev pub digits_of : List ℕ → Option ℕ
digits_of text =
    if nat_le 1 (length text) && nat_le (length text) 6 then numeral_of 10 48 text else None

-- The digits after a point, one to six, in millionths.
abbrev pub millionths_of : List ℕ → Option ℕ
millionths_of digits = digits_of digits >>= λ n. Some (n * 10 ^ (6 - length digits))

-- A number in millionths: one to six digits, and perhaps a point and one to six digits.
abbrev pub number_in : List ℕ → Option Cut → Option ℕ
number_in text None = digits_of text >>= λ n. Some (n * 1000000)
number_in text (Some x) =
    digits_of x.before >>= λ n. (millionths_of x.after >>= λ more. Some (n * 1000000 + more))

-- The number that the text is, in millionths.
abbrev pub number_in_millionths : List ℕ → Option ℕ
number_in_millionths text = number_in text (cut_at (octet ".") text)

-- ---- angles

-- Nothing, or a point and one to six digits, in millionths.
abbrev pub after_point : List ℕ → Option ℕ
after_point [] = Some 0
after_point (b ∷ digits) = if b == octet "." then millionths_of digits else None

-- The minutes in millionths, below 60: two digits, and perhaps a point and one to six digits.
unfoldable pub sent_minutes : List ℕ → Option ℕ
sent_minutes text = do
  digits ← chunk_of 2 text
  whole ← numeral_of 10 48 digits.0
  more ← after_point digits.1
  value_when (nat_lt whole 60) (whole * 1000000 + more)

-- Whether the letter that a field is names the negative half of the globe. None where it names
-- neither half.
abbrev pub sent_half : (positive negative : ℕ) → List ℕ → Option Bool
sent_half positive negative [] = None
sent_half positive negative (b ∷ []) =
    if b == positive then Some false else value_when (b == negative) true
sent_half positive negative (b ∷ c ∷ more) = None

-- The millionths of a minute in an angle.
abbrev pub whole_angle : (degrees minutes : ℕ) → ℕ
whole_angle degrees minutes = degrees * 60000000 + minutes

-- The angle in ten-millionths of a degree, nearest: each is six millionths of a minute. A half is
-- rounded away from 0. None where it is over `limit` degrees, or where a field isn't of its form.
unfoldable pub sent_angle : (limit positive negative : ℕ)
    → (degree_text minute_text half : List ℕ) → Option ℤ
sent_angle limit positive negative degree_text minute_text half = do
  degrees ← numeral_of 10 48 degree_text
  minutes ← sent_minutes minute_text
  is_negative ← sent_half positive negative half
  value_when (nat_le (whole_angle degrees minutes) (whole_angle limit 0))
      (with_sign is_negative (nearest (whole_angle degrees minutes) 6))

-- The latitude: DDMM and perhaps a point and one to six digits, at most 90 degrees, and N or S.
unfoldable pub sent_latitude : (field half : List ℕ) → Option ℤ
sent_latitude field half = do
  degrees ← chunk_of 2 field
  sent_angle 90 (octet "N") (octet "S") degrees.0 degrees.1 half

-- The longitude: DDDMM and perhaps a point and one to six digits, at most 180 degrees, and E or W.
unfoldable pub sent_longitude : (field half : List ℕ) → Option ℤ
sent_longitude field half = do
  degrees ← chunk_of 3 field
  sent_angle 180 (octet "E") (octet "W") degrees.0 degrees.1 half

-- ---- fields, with a comma between two

-- The field at the start of the text, up to a comma, or all of it without one.
abbrev pub next_field : List ℕ → List ℕ
next_field text = (cut_or_all text (cut_at (octet ",") text)).before

-- The latitude, N or S, the longitude and E or W, each with a comma after it: the two angles, and
-- the rest.
unfoldable pub place_at : List ℕ → Option (ℤ × ℤ × List ℕ)
place_at text = do
  north ← cut_at (octet ",") text
  north_half ← cut_at (octet ",") north.after
  east ← cut_at (octet ",") north_half.after
  east_half ← cut_at (octet ",") east.after
  latitude ← sent_latitude north.before north_half.before
  longitude ← sent_longitude east.before east_half.before
  Some (latitude, longitude, east_half.after)

-- The field says that the fix is valid.
abbrev pub is_valid : List ℕ → Bool
is_valid field = bytes_eq field (codes "A")

-- The quality of a fix is a digit above 0.
abbrev pub is_quality : List ℕ → Bool
is_quality [] = false
is_quality (b ∷ []) = nat_le 49 b && nat_le b 57
is_quality (b ∷ c ∷ more) = false

-- The number in a field, to the nearest whole one.
abbrev pub whole_of : List ℕ → Option ℕ
whole_of field = number_in_millionths field >>= λ n. Some (nearest n 1000000)

-- A course in degrees, where 0 is north and has the number 360.
abbrev pub course_from_north : ℕ → Option ℕ
course_from_north n = course_of (if n == 0 then 360 else n)

-- The course in degrees, nearest. None above 360, or where the field is empty or no number.
abbrev pub sent_course : List ℕ → Option ℕ
sent_course field = whole_of field >>= course_from_north

-- The altitude in ten-thousandths of a metre, nearest: a number that may have a minus. A half is
-- rounded away from 0.
abbrev pub signed_altitude_of : List ℕ → Option ℤ
signed_altitude_of field =
    number_in_millionths (without_minus field)
    >>= λ n. Some (with_sign (slice_index field 0 == octet "-") (nearest n 100))

-- The altitude, if its unit is the metre.
abbrev pub altitude_in : (field unit : List ℕ) → Option ℤ
altitude_in field unit = if bytes_eq unit (codes "M") then signed_altitude_of field else None

-- ---- sentences

-- The fix that GGA tells: time, place, quality, satellites, dilution, altitude and its unit. None
-- where the quality is no digit above 0, the place isn't of its form, or no comma follows the
-- altitude.
unfoldable pub gga_of : List ℕ → Option Fix
gga_of text = do
  time ← cut_at (octet ",") text
  place ← place_at time.after
  quality ← cut_at (octet ",") place.2
  satellites ← cut_at (octet ",") quality.after
  dilution ← cut_at (octet ",") satellites.after
  altitude ← cut_at (octet ",") dilution.after
  value_when (is_quality quality.before) (record {
    latitude = place.0;
    longitude = place.1;
    course = None;
    speed = None;
    altitude = altitude_in altitude.before (next_field altitude.after);
  })

-- The fix that GLL tells: place, time and whether it is valid. None where it isn't, or where the
-- place isn't of its form.
unfoldable pub gll_of : List ℕ → Option Fix
gll_of text = do
  place ← place_at text
  time ← cut_at (octet ",") place.2
  value_when (is_valid (next_field time.after)) (record {
    latitude = place.0;
    longitude = place.1;
    course = None;
    speed = None;
    altitude = None;
  })

-- The fix that RMC tells: time, whether it is valid, place, speed and course. None where it isn't
-- valid, the place isn't of its form, or no comma follows the speed.
unfoldable pub rmc_of : List ℕ → Option Fix
rmc_of text = do
  time ← cut_at (octet ",") text
  status ← cut_at (octet ",") time.after
  place ← place_at status.after
  speed ← cut_at (octet ",") place.2
  value_when (is_valid status.before) (record {
    latitude = place.0;
    longitude = place.1;
    course = sent_course (next_field speed.after);
    speed = whole_of speed.before;
    altitude = None;
  })

-- What the sentence of this name tells in these fields. None for any name but GPGGA, GPGLL and
-- GPRMC.
abbrev pub fix_named : (name fields : List ℕ) → Option Fix
fix_named name fields = if bytes_eq name (codes "GPGGA") then gga_of fields
    else (if bytes_eq name (codes "GPGLL") then gll_of fields
    else (if bytes_eq name (codes "GPRMC") then rmc_of fields else None))

-- ---- the checksum

-- The checksum of bytes: each of them, joined by exclusive or.
abbrev pub checksum_of : List ℕ → ℕ
checksum_of bytes = fold bit_xor 0 bytes

-- The checksum with which the text begins, two hexadecimal digits.
unfoldable pub checksum_at : List ℕ → Option ℕ
checksum_at text = do
  digits ← chunk_of 2 text
  high ← hex_digit_value (slice_index digits.0 0)
  low ← hex_digit_value (slice_index digits.0 1)
  Some (high * 16 + low)

-- What stands before the first star, if its checksum follows this; all of the text without a star.
-- None where a checksum is wrong or missing after a star.
abbrev pub checked_in : List ℕ → Option Cut → Option (List ℕ)
checked_in text None = Some text
checked_in text (Some x) =
    checksum_at x.after >>= λ sum. value_when (sum == checksum_of x.before) x.before

-- The sentence in the text, if its checksum is right or it has no star.
abbrev pub checked : List ℕ → Option (List ℕ)
checked text = checked_in text (cut_at (octet "*") text)

-- The byte is a dollar.
abbrev pub is_dollar : ℕ → Bool
is_dollar b = b == octet "$"

-- The fix that a field tells: a dollar, and a sentence that begins with its name and a comma. After
-- a star its checksum has to be right.
unfoldable pub fix_of : List ℕ → Option Fix
fix_of info = do
  dollar ← byte_where is_dollar info
  sentence ← checked dollar.1
  name ← cut_at (octet ",") sentence
  fix_named name.before name.after
