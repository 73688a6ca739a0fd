-- Moments, in milliseconds, and their texts.
use Rattle.std.specs.Prelude.{◌≡◌, ℕ, zero, suc, ◌+◌, ◌/◌, ◌%◌, ◌<◌, ◌≤◌, if◌then◌else◌, List, [], ◌∷◌, ◌++◌, nat_lt, pos}
use Rattle.jiff_core.specs.Calendar.{days_in_month}
use Rattle.aprs_io.specs.Octet.{octet}
use Rattle.aprs_log.specs.Sizes.{last_milli}
use Rattle.aprs_log.specs.declared.moment_form.MomentForm.{MomentForm}
use Rattle.aprs_log.specs.declared.moment_form.MomentForm.TheVariants.{Seconds, Millis}

-- The two digits of a number below 100, as ASCII bytes.
abbrev pub two_digits : ℕ → List ℕ
two_digits n = (48 + n / 10) ∷ (48 + n % 10) ∷ []

-- The four digits of a number below 10,000.
abbrev pub four_digits : ℕ → List ℕ
four_digits n = two_digits (n / 100) ++ two_digits (n % 100)

-- The three digits of a number below 1,000.
abbrev pub three_digits : ℕ → List ℕ
three_digits n = (48 + n / 100) ∷ two_digits (n % 100)

-- ---- a date

-- A date of the civil calendar.
pub record Day : Type 0 where
  pub year : ℕ
  pub month : ℕ
  pub day : ℕ

-- The day after this one.
abbrev pub next_day : Day → Day
next_day d =
    if nat_lt d.day (days_in_month (pos d.year) d.month)
    then record { year = d.year; month = d.month; day = d.day + 1 }
    else (if nat_lt d.month 12 then record { year = d.year; month = d.month + 1; day = 1 }
    else record { year = d.year + 1; month = 1; day = 1 })

-- The day so many days after 1970-01-01.
unfoldable pub day_after : ℕ → Day
day_after zero = record { year = 1970; month = 1; day = 1 }
day_after (suc n) = next_day (day_after n)

-- The text of a day: YYYY-MM-DD.
abbrev pub date_text : Day → List ℕ
date_text d = four_digits d.year ++ octet "-" ∷ two_digits d.month ++ octet "-" ∷ two_digits d.day

-- ---- a time of the day

-- What stands between the seconds and the Z: nothing, or a point and the milliseconds.
abbrev pub fraction_text : MomentForm → ℕ → List ℕ
fraction_text Seconds n = []
fraction_text Millis n = octet "." ∷ three_digits n

-- The text of a millisecond of the day: HH:MM:SSZ, or with .mmm before the Z.
abbrev pub time_text : MomentForm → ℕ → List ℕ
time_text form n =
    two_digits (n / 3600000) ++ octet ":" ∷ two_digits (n / 60000 % 60)
    ++ octet ":" ∷ two_digits (n / 1000 % 60)
    ++ fraction_text form (n % 1000) ++ octet "Z" ∷ []

-- ---- a moment

-- The text of a moment in this form: its date, a T, and its time, in UTC without leap seconds. A
-- form to the second leaves the milliseconds out.
unfoldable pub moment_text_in : MomentForm → ℕ → List ℕ
moment_text_in form m =
    date_text (day_after (m / 86400000)) ++ octet "T" ∷ time_text form (m % 86400000)

-- The text that is written of a moment: to the millisecond.
abbrev pub moment_text : ℕ → List ℕ
moment_text m = moment_text_in Millis m

-- How many moments of one second a form can write: one, or 1,000.
abbrev pub moments_per_second : MomentForm → ℕ
moments_per_second Seconds = 1
moments_per_second Millis = 1000

-- The moment is before the year 2100, and this form can write it: a form to the second can only
-- write whole seconds.
pub record IsWritable (form : MomentForm) (m : ℕ) : Type 0 where
  pub in_range : m ≤ last_milli
  pub whole : m % 1000 < moments_per_second form

-- The text is that of the moment in a form in which it can be written.
abbrev pub IsTextOf : ℕ → List ℕ → Type 0
IsTextOf m text = (form : MomentForm) × IsWritable form m × (text ≡ moment_text_in form m)
