-- More digits of a position (APRS 1.2, !DAO!): three bytes in a comment between exclamation marks.
use Rattle.std.specs.Prelude.{ℕ, ℤ, pos, ◌-◌, ◌+ℤ◌, ◌-ℤ◌, ◌*ℤ◌, Bool, true, false, ◌==◌, ◌&&◌, if◌then◌else◌, List, slice_index, Option, None, Some}
use Rattle.aprs_io.specs.Octet.{octet}
use Rattle.aprs_report.specs.Bytes.{is_digit, is_space}
use Rattle.aprs_report.specs.Reader.{◌>>=◌, value_when, chunk_of}
use Rattle.aprs_report.specs.declared.place.Place.{Place}
use Rattle.aprs_report.specs.declared.place.Place.TheVariants.{Plain, Base91}
use Rattle.aprs_report.specs.declared.place.Fraction.{Fraction}
use Rattle.aprs_details.specs.First.{first_in}
use Rattle.aprs_details.specs.Compressed.{is_base91}
use Rattle.aprs_details.specs.declared.precision.Scale.{Scale}
use Rattle.aprs_details.specs.declared.precision.Scale.TheVariants.{Tenths, NinetyFirsts}
use Rattle.aprs_details.specs.declared.precision.Precision.{Precision}
use Rattle.aprs_details.specs.declared.precision.SignedPrecision.{SignedPrecision}
use Rattle.aprs_details.specs.Halves.{halves_of, mic_e_halves_of}

-- ---- the bytes

-- The letter of the datum WGS 84: the digits are decimal after W, and of base 91 after w. None for
-- any other datum.
abbrev pub scale_of : ℕ → Option Scale
scale_of datum =
    if datum == octet "W" then Some Tenths else value_when (datum == octet "w") NinetyFirsts

-- The number of a decimal digit; a space is 0.
abbrev pub tenth_of : ℕ → Option ℕ
tenth_of b = if is_space b then Some 0 else value_when (is_digit b) (b - 48)

-- The number of a digit of base 91; a space is 0.
abbrev pub ninety_first_of : ℕ → Option ℕ
ninety_first_of b = if is_space b then Some 0 else value_when (is_base91 b) (b - 33)

-- The number of a digit of this scale; a space is 0.
abbrev pub scaled_digit : Scale → ℕ → Option ℕ
scaled_digit Tenths b = tenth_of b
scaled_digit NinetyFirsts b = ninety_first_of b

-- The bytes at the ends of five are exclamation marks.
abbrev pub are_marks : List ℕ → Bool
are_marks field = slice_index field 0 == octet "!" && slice_index field 4 == octet "!"

-- The digits that five bytes say. The bytes are an exclamation mark, the letter of a datum, a digit
-- of the latitude, a digit of the longitude, and an exclamation mark.
unfoldable pub precision_in : List ℕ → Option Precision
precision_in field = do
  scale ← scale_of (slice_index field 1)
  latitude ← scaled_digit scale (slice_index field 2)
  longitude ← scaled_digit scale (slice_index field 3)
  value_when (are_marks field) (record {
    scale = scale;
    latitude = latitude;
    longitude = longitude;
  })

-- The digits that the first five bytes of the text say.
unfoldable pub precision_at : List ℕ → Option Precision
precision_at text = chunk_of 5 text >>= λ field. precision_in field.0

-- The first further digits in the comment, which may stand anywhere in it.
abbrev pub precision_of : List ℕ → Option Precision
precision_of comment = first_in precision_at comment

-- ---- the finer position

-- An angle of hundredths of a minute, counted in smaller parts: a hundredth has `parts` of them.
-- `more` of them are added away from 0: downwards in the negative half of the globe, also where the
-- angle is 0.
abbrev pub finer : (parts more : ℕ) → (is_negative : Bool) → ℤ → ℤ
finer parts more true angle = (angle *ℤ pos parts) -ℤ pos more
finer parts more false angle = (angle *ℤ pos parts) +ℤ pos more

-- The angle in degrees: a hundredth of a minute has ten parts, or ninety-one.
abbrev pub finer_angle : Scale → (more : ℕ) → (is_negative : Bool) → ℤ → Fraction
finer_angle Tenths more is_negative angle =
    record { numerator = finer 10 more is_negative angle; denominator = pos 60000 }
finer_angle NinetyFirsts more is_negative angle =
    record { numerator = finer 91 more is_negative angle; denominator = pos 546000 }

-- The latitude and the longitude in degrees with one digit more. There is none where the place is
-- compressed, or where digits of it are left out. At 90 or 180 degrees the digits lead past these.
abbrev pub finer_place : SignedPrecision → Place → Option (Fraction × Fraction)
finer_place x (Plain lat lon ambiguity) = value_when (ambiguity == 0) (
  finer_angle x.digits.scale x.digits.latitude x.halves.is_south lat,
  finer_angle x.digits.scale x.digits.longitude x.halves.is_west lon,
)
finer_place x (Base91 down east cst) = None

-- The digits that the comment of a report says, with the halves that the report's letters name.
abbrev pub signed_precision_of : (info comment : List ℕ) → Option SignedPrecision
signed_precision_of info comment = precision_of comment
    >>= λ x. Some (record { digits = x; halves = halves_of info comment })

-- The digits that the comment of a Mic-E position says, with the halves that its destination's
-- letters name.
abbrev pub mic_e_signed_precision_of : (characters comment : List ℕ) → Option SignedPrecision
mic_e_signed_precision_of characters comment = precision_of comment
    >>= λ x. Some (record { digits = x; halves = mic_e_halves_of characters })
