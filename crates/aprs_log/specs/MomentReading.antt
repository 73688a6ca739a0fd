-- The moment of a text, as a function: it reads the digits at their places, and compares the text
-- of what they say.
use Rattle.std.specs.Prelude.{ℕ, ◌+◌, ◌-◌, ◌*◌, ◌==◌, ◌&&◌, Bool, if◌then◌else◌, List, [], ◌∷◌, ◌++◌, length, slice_index, Option, None, Some, nat_le, nat_lt, pos, unsigned_abs}
use Rattle.std.specs.Str.{bytes_eq}
use Rattle.jiff_core.specs.Calendar.{days_from_civil, days_in_month}
use Rattle.aprs_io.specs.Octet.{octet}
use Rattle.aprs_log.specs.Moment.{two_digits, four_digits, fraction_text, moments_per_second}
use Rattle.aprs_log.specs.Sizes.{seconds_size}
use Rattle.aprs_log.specs.declared.moment_form.MomentForm.{MomentForm}
use Rattle.aprs_log.specs.declared.moment_form.MomentForm.TheVariants.{Seconds, Millis}

-- The numbers of a date and of a time of its day, in UTC. The calendar may lack the date, and a day
-- the time.
pub record Civil : Type 0 where
  pub year : ℕ
  pub month : ℕ
  pub day : ℕ
  pub hour : ℕ
  pub minute : ℕ
  pub second : ℕ

-- The text of a civil time and its milliseconds: YYYY-MM-DDTHH:MM:SSZ, or with .mmm before the Z.
abbrev pub civil_text : MomentForm → Civil → ℕ → List ℕ
civil_text form civil n =
    four_digits civil.year ++ octet "-" ∷ two_digits civil.month ++ octet "-" ∷ two_digits civil.day
    ++ octet "T" ∷ two_digits civil.hour ++ octet ":" ∷ two_digits civil.minute
    ++ octet ":" ∷ two_digits civil.second
    ++ fraction_text form n ++ octet "Z" ∷ []

-- The seconds from the start of the day to a civil time.
abbrev pub second_of_day : Civil → ℕ
second_of_day civil = civil.hour * 3600 + civil.minute * 60 + civil.second

-- The value of a digit.
abbrev pub digit_of : ℕ → ℕ
digit_of b = b - 48

-- The number whose two digits stand at i.
abbrev pub pair_at : List ℕ → ℕ → ℕ
pair_at text i = 10 * digit_of (slice_index text i) + digit_of (slice_index text (i + 1))

-- The civil time whose digits stand at their places in a text.
abbrev pub civil_at : List ℕ → Civil
civil_at text = record {
  year = 100 * pair_at text 0 + pair_at text 2;
  month = pair_at text 5;
  day = pair_at text 8;
  hour = pair_at text 11;
  minute = pair_at text 14;
  second = pair_at text 17;
}

-- Whether the calendar has this date, in one of the years 1970 to 2099.
abbrev pub is_date : Civil → Bool
is_date civil =
    nat_le 1970 civil.year && nat_le civil.year 2099
    && nat_le 1 civil.month && nat_le civil.month 12
    && nat_le 1 civil.day && nat_le civil.day (days_in_month (pos civil.year) civil.month)

-- Whether a day has this hour, minute and second.
abbrev pub is_time : Civil → Bool
is_time civil = nat_lt civil.hour 24 && nat_lt civil.minute 60 && nat_lt civil.second 60

-- Whether this is a date of these years and a time of its day.
abbrev pub is_date_and_time : Civil → Bool
is_date_and_time civil = is_date civil && is_time civil

-- The seconds from 1970-01-01T00:00:00Z to a civil time from then on.
abbrev pub seconds_of : Civil → ℕ
seconds_of civil =
    86400 * unsigned_abs (days_from_civil (pos civil.year) civil.month civil.day)
    + second_of_day civil

-- The milliseconds whose digits stand at their places in a text.
abbrev pub millis_at : MomentForm → List ℕ → ℕ
millis_at Seconds text = 0
millis_at Millis text = 100 * digit_of (slice_index text 20) + pair_at text 21

-- Whether this is a civil time, and the form can write these milliseconds.
abbrev pub is_real : MomentForm → Civil → ℕ → Bool
is_real form civil n = is_date_and_time civil && nat_lt n (moments_per_second form)

-- The moment of a text in a form: that of the civil time and the milliseconds at their places,
-- where these are real and have this text.
unfoldable pub moment_in : MomentForm → List ℕ → Option ℕ
moment_in form text = if is_real form (civil_at text) (millis_at form text)
    && bytes_eq (civil_text form (civil_at text) (millis_at form text)) text
    then Some (seconds_of (civil_at text) * 1000 + millis_at form text) else None

-- The one form that a text can be in, by its length.
abbrev pub form_of_text : List ℕ → MomentForm
form_of_text text = if length text == seconds_size then Seconds else Millis

-- The moment of a text in either form.
abbrev pub moment_of : List ℕ → Option ℕ
moment_of text = moment_in (form_of_text text) text
