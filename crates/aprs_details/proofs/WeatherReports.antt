-- A weather report that is read is one by the standard's words, and one by these is read.
use Rattle.aprs_details.proofs.Common.{◌≡◌, ℕ, ℤ, zero, suc, ◌+◌, ◌≤◌, Bool, true, false, List, ◌∷◌, ◌++◌, length, Option, None, Some, refl, sym, ap, subst, ◌∙◌, arith, eqb, eqb-true, after_some, guarded_some, some_is, byte_found, chunk_found, chunk_takes, list_all}
use Rattle.std.proofs.Common.{length-append}
use Rattle.std.proofs.lemmas.Bool.{eqb-false}
use Rattle.aprs_report.specs.Bytes.{is_digit}
use Rattle.aprs_report.specs.Reader.{◌>>=◌}
use Rattle.aprs_details.specs.declared.weather.Weather.{Weather}
use Rattle.aprs_details.specs.Value.{known}
use Rattle.aprs_details.specs.Compressed.{course_of_cst}
use Rattle.aprs_details.specs.Extension.{IsPair, pair_of}
use Rattle.aprs_details.specs.Weather.{field_at, places_in, number_of, temperature_of, humidity_of, luminosity_of, bright_of, fahrenheit, percent, direction_in, weather_with, weather_of_fields, weather_after, weather_of_comment, weather_after_cst, weather_of_cst, is_underscore, fields_of_info, weather_of_info}
use Rattle.aprs_details.specs.WeatherReport.{IsWeatherField, HasField, here, later, Says, field, missing, percent_in, bright_in, SaysWeather, SaysWind, IsWeatherReport, IsWeatherComment, IsCompressedWeather, with_wind, in_fields, after_wind, in_bytes}
use Rattle.aprs_details.proofs.Pairs.{pair_found, pair_takes}
use Rattle.aprs_details.proofs.Lacking.{none_some, then_some}
use Rattle.aprs_details.proofs.Fields.{field_found, field_takes, walk_stops, walk_goes_on, walk_ends}
use Rattle.aprs_details.specs.First.{or_other}

-- ---- the first field of a letter

at_field : (letter : ℕ) (places text : List ℕ) (o : Option (ℕ × List ℕ × List ℕ)) (b : Bool) →
    field_at text ≡ o → ((x : ℕ × List ℕ × List ℕ) → o ≡ Some x → eqb x.0 letter ≡ b) →
    places_in letter text ≡ Some places →
    ((rest : List ℕ) → suc (length rest) ≤ length text → places_in letter rest ≡ Some places →
    HasField letter places rest) → HasField letter places text
at_field letter places text None b e is h next = absurd (none_some places (walk_ends letter text (Some places) e h))
at_field letter places text (Some x) true e is h next =
    let f = field_found text x e in
    let same : x.0 ≡ letter = eqb-true x.0 letter (is x refl) in
    let these : x.1 ≡ places = some_is x.1 places (walk_stops letter text x (Some places) e same h) in
    subst (λ (t : List ℕ). HasField letter places t)
    (ap (λ (b : ℕ). b ∷ (places ++ x.2)) (sym same) ∙ ap (λ (l : List ℕ). x.0 ∷ (l ++ x.2)) (sym these) ∙ sym f.whole)
    (here x.2 (subst (λ (b : ℕ). IsWeatherField b places) same (subst (λ (l : List ℕ). IsWeatherField x.0 l) these f.field)))
at_field letter places text (Some x) false e is h next =
    let f = field_found text x e in
    let other = eqb-false x.0 letter (is x refl) in
    let shorter : suc (length x.2) ≤ length text =
    omega (arith, ap length f.whole, length-append x.1 x.2) in
    subst (λ (t : List ℕ). HasField letter places t) (sym f.whole)
    (later x.0 x.1 x.2 f.field other (next x.2 shorter (walk_goes_on letter text x (Some places) e other h)))

abbrev is_letter : ℕ → Option (ℕ × List ℕ × List ℕ) → Bool
is_letter letter None = false
is_letter letter (Some x) = eqb x.0 letter

is_letter_of : (letter : ℕ) (o : Option (ℕ × List ℕ × List ℕ)) (x : ℕ × List ℕ × List ℕ) →
    o ≡ Some x → eqb x.0 letter ≡ is_letter letter o
is_letter_of letter o x e = ap (is_letter letter) (sym e)

within : (n letter : ℕ) (places text : List ℕ) → length text ≤ n → places_in letter text ≡ Some places →
    HasField letter places text
within zero letter places text le h =
    at_field letter places text (field_at text) (is_letter letter (field_at text)) refl
    (is_letter_of letter (field_at text)) h (λ rest lt e. absurd (omega (arith, le, lt)))
within (suc n) letter places text le h =
    at_field letter places text (field_at text) (is_letter letter (field_at text)) refl
    (is_letter_of letter (field_at text)) h
    (λ rest lt e. within n letter places rest (omega (arith, le, lt)) e)

pub first_found : (letter : ℕ) (places text : List ℕ) → places_in letter text ≡ Some places →
    HasField letter places text
first_found letter places text e = within (length text) letter places text (omega arith) e

pub first_takes : (letter : ℕ) (places text : List ℕ) → HasField letter places text →
    places_in letter text ≡ Some places
first_takes letter places _ (here rest f) =
    sym (walk_stops letter (letter ∷ (places ++ rest)) (letter, places, rest)
    (places_in letter (letter ∷ (places ++ rest))) (field_takes letter places rest f) refl refl)
first_takes letter places _ (later other others rest f differs h) =
    sym (walk_goes_on letter (other ∷ (others ++ rest)) (other, others, rest)
    (places_in letter (other ∷ (others ++ rest))) (field_takes other others rest f) differs refl)
    ∙ first_takes letter places rest h

-- ---- what a letter says

said_at : {A : Type 0} (value_in : List ℕ → Option A) (letter : ℕ) (text : List ℕ) (value : Option A)
    (o : Option (List ℕ)) → places_in letter text ≡ o → (o >>= value_in) ≡ value →
    Says value_in letter text value
said_at value_in letter text value None e h =
    missing (λ places f. none_some places (sym e ∙ first_takes letter places text f)) (sym h)
said_at value_in letter text value (Some places) e h = field places (first_found letter places text e) h

said : {A : Type 0} (value_in : List ℕ → Option A) (letter : ℕ) (text : List ℕ) →
    Says value_in letter text (places_in letter text >>= value_in)
said value_in letter text =
    said_at value_in letter text (places_in letter text >>= value_in) (places_in letter text) refl refl

missing_at : {A : Type 0} (value_in : List ℕ → Option A) (letter : ℕ) (text : List ℕ)
    (o : Option (List ℕ)) → places_in letter text ≡ o →
    ((places : List ℕ) → HasField letter places text → ⊥) → (o >>= value_in) ≡ None
missing_at value_in letter text None e never = refl
missing_at value_in letter text (Some places) e never =
    absurd (never places (first_found letter places text e))

says_it : {A : Type 0} (value_in : List ℕ → Option A) (letter : ℕ) (text : List ℕ) (value : Option A) →
    Says value_in letter text value → (places_in letter text >>= value_in) ≡ value
says_it value_in letter text value (field places f e) =
    ap (λ (o : Option (List ℕ)). o >>= value_in) (first_takes letter places text f) ∙ e
says_it value_in letter text value (missing never e) =
    missing_at value_in letter text (places_in letter text) refl never ∙ sym e

-- a value of a number that is known
of_known : (o : Option (List ℕ)) (f : ℕ → Option ℕ) →
    (o >>= λ places. known places >>= f) ≡ ((o >>= known) >>= f)
of_known None f = refl
of_known (Some places) f = refl

-- ---- the weather

pub weather_said : (wind_from wind : Option ℕ) (text : List ℕ) →
    SaysWeather (weather_with wind_from wind text) wind_from wind text
unfolding weather_with
weather_said wind_from wind text = record {
  from = refl;
  speed = refl;
  gust = said known 103 text;
  temperature = said fahrenheit 116 text;
  rain_hour = said known 114 text;
  rain_day = said known 112 text;
  rain_midnight = said known 80 text;
  humidity =
      said_at percent_in 104 text (humidity_of text) (places_in 104 text) refl
      (of_known (places_in 104 text) (λ n. Some (percent n)));
  pressure = said known 98 text;
  dark = number_of 76 text;
  bright = bright_of text;
  below_thousand = said known 76 text;
  thousand_more =
      said_at bright_in 108 text (bright_of text) (places_in 108 text) refl
      (of_known (places_in 108 text) (λ n. Some (n + 1000)));
  luminosity = refl;
}

pub weather_takes : (w : Weather) (wind_from wind : Option ℕ) (text : List ℕ) →
    SaysWeather w wind_from wind text → weather_with wind_from wind text ≡ w
unfolding weather_with
weather_takes w wind_from wind text h =
    let gust : number_of 103 text ≡ w.gust = says_it known 103 text w.gust h.gust in
    let temperature : temperature_of text ≡ w.temperature = says_it fahrenheit 116 text w.temperature h.temperature in
    let rain_hour : number_of 114 text ≡ w.rain_hour = says_it known 114 text w.rain_hour h.rain_hour in
    let rain_day : number_of 112 text ≡ w.rain_day = says_it known 112 text w.rain_day h.rain_day in
    let rain_midnight : number_of 80 text ≡ w.rain_midnight = says_it known 80 text w.rain_midnight h.rain_midnight in
    let humidity : humidity_of text ≡ w.humidity =
    sym (of_known (places_in 104 text) (λ n. Some (percent n))) ∙ says_it percent_in 104 text w.humidity h.humidity in
    let pressure : number_of 98 text ≡ w.pressure = says_it known 98 text w.pressure h.pressure in
    let dark : number_of 76 text ≡ h.dark = says_it known 76 text h.dark h.below_thousand in
    let bright : bright_of text ≡ h.bright =
    sym (of_known (places_in 108 text) (λ n. Some (n + 1000))) ∙ says_it bright_in 108 text h.bright h.thousand_more in
    let luminosity : luminosity_of text ≡ w.luminosity =
    ap (λ (o : Option ℕ). or_other o (bright_of text)) dark ∙ ap (or_other h.dark) bright ∙ h.luminosity in
    made w (direction_in wind_from) wind (number_of 103 text) (number_of 114 text) (number_of 112 text) (number_of 80 text)
    (humidity_of text) (number_of 98 text) (luminosity_of text) (temperature_of text)
    h.from h.speed gust rain_hour rain_day rain_midnight humidity pressure luminosity temperature
  where
    made : (w : Weather) (wind_from wind gust rain_hour rain_day rain_midnight humidity pressure luminosity : Option ℕ)
        (temperature : Option ℤ) → wind_from ≡ w.wind_from → wind ≡ w.wind → gust ≡ w.gust →
        rain_hour ≡ w.rain_hour → rain_day ≡ w.rain_day → rain_midnight ≡ w.rain_midnight →
        humidity ≡ w.humidity → pressure ≡ w.pressure → luminosity ≡ w.luminosity →
        temperature ≡ w.temperature → ◌≡◌ {A = Weather} (record {
          wind_from = wind_from;
          wind = wind;
          gust = gust;
          temperature = temperature;
          rain_hour = rain_hour;
          rain_day = rain_day;
          rain_midnight = rain_midnight;
          humidity = humidity;
          pressure = pressure;
          luminosity = luminosity;
        }) w
    made w _ _ _ _ _ _ _ _ _ _ e1 e2 e3 e4 e5 e6 e7 e8 e9 e10 =
        rw (e1, e2, e3, e4, e5, e6, e7, e8, e9, e10) refl

fields_said : (text : List ℕ) → SaysWind (weather_of_fields text) text
unfolding weather_of_fields
fields_said text = record {
  wind_from = number_of 99 text;
  wind = number_of 115 text;
  direction = said known 99 text;
  speed = said known 115 text;
  weather = weather_said (number_of 99 text) (number_of 115 text) text;
}

fields_takes : (w : Weather) (text : List ℕ) → SaysWind w text → weather_of_fields text ≡ w
unfolding weather_of_fields
fields_takes w text h =
    let from : number_of 99 text ≡ h.wind_from = says_it known 99 text h.wind_from h.direction in
    let speed : number_of 115 text ≡ h.wind = says_it known 115 text h.wind h.speed in
    ap (λ (o : Option ℕ). weather_with o (number_of 115 text) text) from
    ∙ ap (λ (o : Option ℕ). weather_with h.wind_from o text) speed
    ∙ weather_takes w h.wind_from h.wind text h.weather

-- ---- without a position

fields_found : (info text : List ℕ) (w : Weather) → fields_of_info info ≡ Some text → SaysWind w text →
    IsWeatherReport w info
unfolding fields_of_info
fields_found info text w e says = after_some _ _ _ _ e (λ mark e1 r1. after_some _ _ _ _ r1 (λ stamp e2 r2.
    let f1 = byte_found is_underscore info mark e1 in
    let f2 = chunk_found 8 mark.1 stamp e2 in
    let g = guarded_some _ _ _ r2 in
    record {
      stamp = stamp.0;
      text = text;
      whole = whole_is info mark.0 mark.1 stamp.0 stamp.1 text f1.0 f1.1 f2.parts g.1;
      eight = f2.len;
      digits = g.0;
      says = says;
    }))
  where
    whole_is : (info : List ℕ) (b : ℕ) (rest stamp left text : List ℕ) → info ≡ b ∷ rest →
        is_underscore b ≡ true → rest ≡ stamp ++ left → left ≡ text → info ≡ 95 ∷ (stamp ++ text)
    whole_is info b rest stamp left text e h r t = rw (e, eqb-true b 95 h, r, t) refl

pub report_found : (info : List ℕ) (w : Weather) → weather_of_info info ≡ Some w → IsWeatherReport w info
unfolding weather_of_info
report_found info w e = after_some _ _ _ _ e (λ text e1 r1.
    fields_found info text w e1
    (subst (λ (w : Weather). SaysWind w text) (some_is (weather_of_fields text) w r1) (fields_said text)))

fields_of_it : (info stamp text : List ℕ) → info ≡ 95 ∷ (stamp ++ text) → length stamp ≡ 8 →
    list_all is_digit stamp ≡ true → fields_of_info info ≡ Some text
unfolding fields_of_info
fields_of_it info stamp text e eight digits =
    ap fields_of_info e ∙ rw (chunk_takes 8 stamp text eight, digits) refl

pub report_takes : (info : List ℕ) (w : Weather) → IsWeatherReport w info → weather_of_info info ≡ Some w
unfolding weather_of_info
report_takes info w h =
    then_some (fields_of_info info) h.text (λ text. Some (weather_of_fields text)) (Some w)
    (fields_of_it info h.stamp h.text h.whole h.eight h.digits)
    (ap (λ (w : Weather). Some w) (fields_takes w h.text h.says))

-- ---- with a position

said_after : (comment : List ℕ) (o : Option (Option ℕ × Option ℕ × List ℕ)) → pair_of comment ≡ o →
    IsWeatherComment (weather_after comment o) comment
said_after comment None e =
    in_fields (λ first second rest h. none_some (first, second, rest) (sym e ∙ pair_takes comment first second rest h))
    (fields_said comment)
said_after comment (Some x) e =
    with_wind x.0 x.1 x.2 (pair_found comment x e) (weather_said x.0 x.1 x.2)

pub comment_said : (comment : List ℕ) → IsWeatherComment (weather_of_comment comment) comment
unfolding weather_of_comment
comment_said comment = said_after comment (pair_of comment) refl

no_pair : (comment : List ℕ) (o : Option (Option ℕ × Option ℕ × List ℕ)) → pair_of comment ≡ o →
    ((first second : Option ℕ) (rest : List ℕ) → IsPair first second rest comment → ⊥) →
    weather_after comment o ≡ weather_of_fields comment
no_pair comment None e never = refl
no_pair comment (Some x) e never = absurd (never x.0 x.1 x.2 (pair_found comment x e))

pub comment_takes : (comment : List ℕ) (w : Weather) → IsWeatherComment w comment →
    weather_of_comment comment ≡ w
unfolding weather_of_comment
comment_takes comment w (with_wind wind_from wind rest pair says) =
    ap (weather_after comment) (pair_takes comment wind_from wind rest pair)
    ∙ weather_takes w wind_from wind rest says
comment_takes comment w (in_fields never says) =
    no_pair comment (pair_of comment) refl never ∙ fields_takes w comment says

-- ---- with a compressed position

compressed_after : (cst comment : List ℕ) (o : Option (Option ℕ × Option ℕ × List ℕ)) →
    pair_of comment ≡ o → IsCompressedWeather (weather_after_cst cst comment o) cst comment
compressed_after cst comment None e =
    in_bytes (λ first second rest h. none_some (first, second, rest) (sym e ∙ pair_takes comment first second rest h))
    (weather_said (course_of_cst cst) None comment)
compressed_after cst comment (Some x) e =
    after_wind x.0 x.1 x.2 (pair_found comment x e) (weather_said x.0 x.1 x.2)

pub compressed_said : (cst comment : List ℕ) → IsCompressedWeather (weather_of_cst cst comment) cst comment
unfolding weather_of_cst
compressed_said cst comment = compressed_after cst comment (pair_of comment) refl

without_pair : (cst comment : List ℕ) (o : Option (Option ℕ × Option ℕ × List ℕ)) → pair_of comment ≡ o →
    ((first second : Option ℕ) (rest : List ℕ) → IsPair first second rest comment → ⊥) →
    weather_after_cst cst comment o ≡ weather_with (course_of_cst cst) None comment
without_pair cst comment None e never = refl
without_pair cst comment (Some x) e never = absurd (never x.0 x.1 x.2 (pair_found comment x e))

pub compressed_takes : (cst comment : List ℕ) (w : Weather) → IsCompressedWeather w cst comment →
    weather_of_cst cst comment ≡ w
unfolding weather_of_cst
compressed_takes cst comment w (after_wind wind_from wind rest pair says) =
    ap (weather_after_cst cst comment) (pair_takes comment wind_from wind rest pair)
    ∙ weather_takes w wind_from wind rest says
compressed_takes cst comment w (in_bytes never says) =
    without_pair cst comment (pair_of comment) refl never
    ∙ weather_takes w (course_of_cst cst) None comment says
