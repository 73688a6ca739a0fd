-- A latitude DDMM.hhN or a longitude DDDMM.hhE, in hundredths of minutes
-- (APRS Protocol Reference 1.0.1, chapter 6).
use Rattle.std.specs.Prelude.{◌≡◌, ℕ, ℤ, pos, neg_ℤ, ◌+◌, ◌*◌, ◌^◌, ◌<◌, ◌≤◌, Bool, true, false}
use Rattle.std.specs.Prelude.{◌||◌, List, [], ◌∷◌, ◌++◌, length}
use Rattle.std.specs.List.{list_all}
use Rattle.aprs_report.specs.declared.place.coordinate.Axis.{Axis}
use Rattle.aprs_report.specs.declared.place.coordinate.Axis.TheVariants.{Latitude, Longitude}
use Rattle.aprs_report.specs.Bytes.{is_digit, is_space}
use Rattle.aprs_report.specs.Numeral.{IsNumeral}

-- How many digits the degrees of an angle have.
abbrev pub degree_digits : Axis → ℕ
degree_digits Latitude = 2
degree_digits Longitude = 3

-- How many hundredths of minutes a degree has.
abbrev pub per_degree : ℕ
per_degree = 6000

-- The greatest angle: 90 degrees of latitude, 180 of longitude.
abbrev pub limit : Axis → ℕ
limit Latitude = 90 * per_degree
limit Longitude = 180 * per_degree

-- The letter of the negative half (true) or the positive one: S or N, W or E.
abbrev pub letter : Axis → Bool → ℕ
letter Latitude true = 83
letter Latitude false = 78
letter Longitude true = 87
letter Longitude false = 69

-- The number, or its negative.
abbrev pub with_sign : Bool → ℕ → ℤ
with_sign true n = neg_ℤ (pos n)
with_sign false n = pos n

-- What may stand at an ambiguous place. In a longitude a digit may be left there, since the
-- latitude shows how many places are ambiguous.
abbrev pub is_blank : Axis → ℕ → Bool
is_blank Latitude b = is_space b
is_blank Longitude b = is_space b || is_digit b

-- The places tens, units, tenths and hundredths are these minutes, in hundredths; the last of them
-- are ambiguous and read as 0.
pub record IsMinutes (axis : Axis) (ambiguity minutes : ℕ) (places : List ℕ) : Type 0 where
  pub known : List ℕ
  pub blank : List ℕ
  pub number : ℕ
  pub whole : places ≡ known ++ blank
  pub at_known : IsNumeral 10 48 number known
  pub blanks : list_all (is_blank axis) blank ≡ true
  pub count : length blank ≡ ambiguity
  pub value : minutes ≡ number * 10 ^ ambiguity
  pub below : minutes < per_degree

-- The text MM.hh and the letter of the half.
abbrev pub minutes_text : (tens units tenths hundredths half : ℕ) → List ℕ
minutes_text tens units tenths hundredths half =
    tens ∷ units ∷ 46 ∷ tenths ∷ hundredths ∷ half ∷ []

-- The text is this angle: its degrees, its minutes and the letter of its half.
pub record IsCoordinate (axis : Axis) (ambiguity : ℕ) (angle : ℤ) (text : List ℕ) : Type 0 where
  pub degree_text : List ℕ
  pub tens : ℕ
  pub units : ℕ
  pub tenths : ℕ
  pub hundredths : ℕ
  pub degrees : ℕ
  pub minutes : ℕ
  pub is_negative : Bool
  pub width : length degree_text ≡ degree_digits axis
  pub at_degrees : IsNumeral 10 48 degrees degree_text
  pub at_minutes : IsMinutes axis ambiguity minutes (tens ∷ units ∷ tenths ∷ hundredths ∷ [])
  pub within : degrees * per_degree + minutes ≤ limit axis
  pub value : angle ≡ with_sign is_negative (degrees * per_degree + minutes)
  pub whole : text ≡
      degree_text ++ minutes_text tens units tenths hundredths (letter axis is_negative)
