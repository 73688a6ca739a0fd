-- A weather report in the standard's words (APRS Protocol Reference 1.0.1, chapter 12): fields one
-- after another, each of them a letter and its places.
use Rattle.std.specs.Prelude.{◌≡◌, ℕ, ◌+◌, true, List, ◌∷◌, ◌++◌, length, Option, Some, None, codes}
use Rattle.std.specs.List.{list_all}
use Rattle.aprs_io.specs.Octet.{octet}
use Rattle.aprs_report.specs.Bytes.{is_digit}
use Rattle.aprs_report.specs.Reader.{◌>>=◌}
use Rattle.aprs_details.specs.declared.weather.Weather.{Weather}
use Rattle.aprs_details.specs.Value.{known}
use Rattle.aprs_details.specs.Compressed.{course_of_cst}
use Rattle.aprs_details.specs.Extension.{IsPair}
use Rattle.aprs_details.specs.Weather.{width_of, fits_letter, fahrenheit, percent, direction_in}
use Rattle.aprs_details.specs.First.{or_other}

-- A field of this letter has as many places as these, and these may stand there.
pub record IsWeatherField (letter : ℕ) (places : List ℕ) : Type 0 where
  pub width : width_of letter ≡ Some (length places)
  pub fits : fits_letter letter places ≡ true

-- The text begins with fields, and the first of this letter has these places: it stands here, or
-- after a field of another letter.
pub data HasField (letter : ℕ) (places : List ℕ) : List ℕ → Type 0 where
  here : (rest : List ℕ) → IsWeatherField letter places
      → HasField letter places (letter ∷ (places ++ rest))
  later : (other : ℕ) (others rest : List ℕ) → IsWeatherField other others → (other ≡ letter → ⊥) →
      HasField letter places rest → HasField letter places (other ∷ (others ++ rest))

-- The text says this value by a letter: that of the places in its first field; or none, if it has
-- no such field.
pub data Says {A : Type 0} (value_in : List ℕ → Option A) (letter : ℕ)
    (text : List ℕ) (value : Option A) : Type 0 where
  field : (places : List ℕ) → HasField letter places text → value_in places ≡ value →
      Says value_in letter text value
  missing : ((places : List ℕ) → HasField letter places text → ⊥) → value ≡ None →
      Says value_in letter text value

-- The humidity in its places, where 00 is 100 percent.
abbrev pub percent_in : List ℕ → Option ℕ
percent_in places = known places >>= λ n. Some (percent n)

-- The luminosity from 1000 watts on a square metre on, in the places of l: they say what is over.
abbrev pub bright_in : List ℕ → Option ℕ
bright_in places = known places >>= λ n. Some (n + 1000)

-- The fields of the text say this weather, with this wind: the gust g, the temperature t, rain r of
-- the last hour, p of the last day and P since midnight, the humidity h, the pressure b, and the
-- luminosity L, or else l. A direction above 360 is left out.
pub record SaysWeather (w : Weather) (wind_from wind : Option ℕ) (text : List ℕ) : Type 0 where
  pub from : direction_in wind_from ≡ w.wind_from
  pub speed : wind ≡ w.wind
  pub gust : Says known (octet "g") text w.gust
  pub temperature : Says fahrenheit (octet "t") text w.temperature
  pub rain_hour : Says known (octet "r") text w.rain_hour
  pub rain_day : Says known (octet "p") text w.rain_day
  pub rain_midnight : Says known (octet "P") text w.rain_midnight
  pub humidity : Says percent_in (octet "h") text w.humidity
  pub pressure : Says known (octet "b") text w.pressure
  pub dark : Option ℕ
  pub bright : Option ℕ
  pub below_thousand : Says known (octet "L") text dark
  pub thousand_more : Says bright_in (octet "l") text bright
  pub luminosity : or_other dark bright ≡ w.luminosity

-- The fields of the text say this weather, and the wind too: its direction c and its speed s.
pub record SaysWind (w : Weather) (text : List ℕ) : Type 0 where
  pub wind_from : Option ℕ
  pub wind : Option ℕ
  pub direction : Says known (octet "c") text wind_from
  pub speed : Says known (octet "s") text wind
  pub weather : SaysWeather w wind_from wind text

-- The field is a weather report without a position: an underscore, eight digits of month, day, hour
-- and minute, and fields.
pub record IsWeatherReport (w : Weather) (info : List ℕ) : Type 0 where
  pub stamp : List ℕ
  pub text : List ℕ
  pub whole : info ≡ codes "_" ++ (stamp ++ text)
  pub eight : length stamp ≡ 8
  pub digits : list_all is_digit stamp ≡ true
  pub says : SaysWind w text

-- The comment of a weather station's plain position says this weather: it begins with the wind's
-- direction and speed, or else the wind is in its fields.
pub data IsWeatherComment (w : Weather) (comment : List ℕ) : Type 0 where
  with_wind : (wind_from wind : Option ℕ) (rest : List ℕ) → IsPair wind_from wind rest comment →
      SaysWeather w wind_from wind rest → IsWeatherComment w comment
  in_fields : ((wind_from wind : Option ℕ) (rest : List ℕ)
      → IsPair wind_from wind rest comment → ⊥) →
      SaysWind w comment → IsWeatherComment w comment

-- The comment of a weather station's compressed position says this weather: it begins with the
-- wind's direction and speed, or else the direction is in the bytes c, s and T, and the speed isn't
-- said.
pub data IsCompressedWeather (w : Weather) (cst comment : List ℕ) : Type 0 where
  after_wind : (wind_from wind : Option ℕ) (rest : List ℕ) → IsPair wind_from wind rest comment →
      SaysWeather w wind_from wind rest → IsCompressedWeather w cst comment
  in_bytes : ((from wind : Option ℕ) (rest : List ℕ) → IsPair from wind rest comment → ⊥) →
      SaysWeather w (course_of_cst cst) None comment → IsCompressedWeather w cst comment
